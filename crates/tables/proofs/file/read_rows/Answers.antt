use Rattle.std.proofs.Common.{◌≡◌, ◌+◌, Bool, true, length, sym, ap, ◌∙◌, subst}
use Rattle.std.specs.Bool.{OnTrue}
use Rattle.csv.specs.Records.{fields_of}
use Rattle.tables.specs.Records.{unread}
use Rattle.tables.proofs.Rows.{so_far-more, length-row_of}
use Rattle.tables.proofs.file.read_rows.Goals as goal

-- what is told on true, where it is so
told : {P : Type 0} (b : Bool) → b ≡ true → OnTrue b P → P
told {P} b is on = let f : Bool → Type 0 = λ v. OnTrue v P in subst f is on

pub push-requires : goal.push-requires
push-requires c =
    let read = rw (c.deref.ensures.value, c.from-line.ensures) at c.in_default.ensures in
    let wide = length-row_of (2 + c.loop-taken.taken) c.args.columns.now.items (fields_of c.next_record.new.fields) c.read_row.new.row.items read in
    ap length c.deref-in-loop-taken.ensures.value ∙ wide ∙ ap length (sym c.loop-taken.invariant.same_columns)

pub loop-taken-preserved : goal.loop-taken-preserved
loop-taken-preserved c =
    let takes = told _ c.if-not-branch.false c.in_ok-next_record.ensures.found in
    let read = rw (c.deref.ensures.value, c.from-line.ensures) at c.in_default.ensures in
    rw (c.in_ok-push.ensures.ok, c.deref-in-loop-taken.ensures.value)
    (so_far-more c.args.columns.now.items (unread c.args.reader.now) c.loop-taken.reader c.next_record.new.reader c.loop-taken.table c.loop-taken.taken
    (fields_of c.next_record.new.fields) c.read_row.new.row.items c.loop-taken.invariant takes read)
