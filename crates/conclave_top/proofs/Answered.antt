-- Answers and views that are added one after the other.
use Rattle.std.proofs.Common.{◌≡◌, ◌∙◌, ℕ, zero, suc, ◌+◌, ◌<◌, true, cond, get_or, List, [], ◌∷◌, ◌++◌, length, map, take, Option, Some, None, arith, refl, ap, sym, subst, append_assoc, string_bytes}
use Rattle.std.specs.Prelude.{String, Vec, filter, slice_get, slice_index_or}
use Rattle.std.specs.Global.{Global}
use Rattle.std.specs.List.{flat_map}
use Rattle.std.proofs.lemmas.List.{append-nil, map-append, map_push}
use Rattle.std.proofs.lemmas.List.Concat.{flat_map-append}
use Rattle.std.proofs.lemmas.List.Elements.{filter-append}
use Rattle.std.proofs.lemmas.Option.{slice_get-get_or}
use Rattle.bags.specs.Bag.{SameBag}
use Rattle.bags.specs.Laws.{BagsKeepRows}
use Rattle.lanes.specs.Party.{number_of}
use Rattle.lanes.specs.Three.{at, each}
use Rattle.lanes.specs.declared.party.Party.{Party}
use Rattle.lanes.specs.declared.party.Party.TheVariants.{First, Second, Third}
use Rattle.lanes.specs.declared.three.Three.{Three}
use Rattle.lowering.specs.Plan.{Plan, answer_rows}
use Rattle.plain_meaning.specs.Meaning.{meanings, rows_of}
use Rattle.plain_meaning.specs.Plain.{rows_of_tables}
use Rattle.query_graph.specs.Parties.{has}
use Rattle.query_graph.specs.declared.node.Node.{Node}
use Rattle.query_graph.specs.declared.node.Output.{Output}
use Rattle.query_graph.specs.declared.parties.Parties.{Parties}
use Rattle.step_lists.specs.Layout.{party_of}
use Rattle.step_lists.specs.Phases.{Links}
use Rattle.step_lists.specs.Shapes.{word_lists}
use Rattle.tables.specs.Answer.{AnswersOfEqualBags, answer_of}
use Rattle.tables.specs.Content as table
use Rattle.conclave_top.specs.declared.run_files.Results.{Results}
use Rattle.conclave_top.specs.Added.{AreAdded, AreAnswered, HoldAnswers}
use Rattle.conclave_top.specs.AnswerFiles.{Answer, among, answer_write, answers_at, line_of, recipients_of}
use Rattle.conclave_top.specs.Deliver.{write_of}
use Rattle.conclave_top.specs.Lines.{answer_line}
use Rattle.conclave_top.specs.PartyFiles.{answer_file, view_file}
use Rattle.conclave_top.specs.Run.{view_writes}
use Rattle.conclave_top.specs.Views.{view_bytes}
use Rattle.conclave_top.proofs.PartyNumbers.{at_each, party_of_number}
use Rattle.conclave_top.proofs.WriteFiles.{same_write}

-- ---- views

pub added_then : (first more : List (List ℕ × List ℕ)) (old mid new : Results) → AreAdded first old mid → AreAdded more mid new → AreAdded (first ++ more) old new
added_then first more old mid new a b = record {
  writes_are = b.writes_are ∙ ap (λ ws. ws ++ more) a.writes_are ∙ append_assoc (map write_of old.writes.items) first more;
  output_is = b.output_is ∙ a.output_is;
}

pub added_one : (name bytes : List ℕ) (file : String Global) (view : Vec ℕ Global) (old new : Results) → string_bytes file ≡ name → view.items ≡ bytes → new.writes.items ≡ old.writes.items ++ (file, view) ∷ []
    → new.output.items ≡ old.output.items → AreAdded ((name, bytes) ∷ []) old new
added_one name bytes file view old new named given pushed same = record {
  writes_are = ap (map write_of) pushed ∙ map_push write_of old.writes.items (file, view)
      ∙ ap (λ w. map write_of old.writes.items ++ w ∷ []) (same_write (string_bytes file) name view.items bytes named given);
  output_is = same;
}

added_three : (a b c : List ℕ × List ℕ) (old first second new : Results) → AreAdded (a ∷ []) old first → AreAdded (b ∷ []) first second → AreAdded (c ∷ []) second new → AreAdded (a ∷ b ∷ c ∷ []) old new
added_three a b c old first second new one two three = added_then (a ∷ b ∷ []) (c ∷ []) old second new (added_then (a ∷ []) (b ∷ []) old first second one two) three

pub added_views : (tapes : List ℕ) (links : Links) (old first second new : Results) → AreAdded ((view_file tapes First, view_bytes links First) ∷ []) old first
    → AreAdded ((view_file tapes Second, view_bytes links Second) ∷ []) first second → AreAdded ((view_file tapes Third, view_bytes links Third) ∷ []) second new → AreAdded (view_writes tapes links) old new
added_views tapes links old first second new one two three =
    added_three (view_file tapes First, view_bytes links First) (view_file tapes Second, view_bytes links Second) (view_file tapes Third, view_bytes links Third) old first second new one two three

-- ---- answers

pub answered_nothing : (results : Results) → AreAnswered [] results results
answered_nothing results = record { writes_are = sym (append-nil (map write_of results.writes.items)); output_is = sym (append-nil results.output.items) }

pub answered_then : (first more : List Answer) (old mid new : Results) → AreAnswered first old mid → AreAnswered more mid new → AreAnswered (first ++ more) old new
answered_then first more old mid new a b = record {
  writes_are = b.writes_are
      ∙ ap (λ ws. ws ++ map answer_write more) a.writes_are
      ∙ append_assoc (map write_of old.writes.items) (map answer_write first) (map answer_write more)
      ∙ ap (λ ws. map write_of old.writes.items ++ ws) (sym (map-append answer_write first more));
  output_is = b.output_is
      ∙ ap (λ bs. bs ++ flat_map line_of more) a.output_is
      ∙ append_assoc old.output.items (flat_map line_of first) (flat_map line_of more)
      ∙ ap (λ bs. old.output.items ++ bs) (sym (flat_map-append line_of first more));
}

-- a file with the rows of an answer in another order, and its line
pub answered_one : AnswersOfEqualBags → BagsKeepRows → (node : Node) (party : Party) (rows : List (List ℕ)) (given : table.Content) (file : String Global) (text : Vec ℕ Global) (line : List ℕ) (old new : Results)
    → given.columns ≡ node.columns → SameBag given.rows rows → string_bytes file ≡ answer_file node party → text.items ≡ answer_of given → line ≡ answer_line (string_bytes file) (length given.rows)
    → new.output.items ≡ old.output.items ++ line → new.writes.items ≡ old.writes.items ++ (file, text) ∷ [] → AreAnswered (record { node = node; rows = rows; party = party } ∷ []) old new
answered_one equal kept node party rows given file text line old new columns bag named written says printed pushed =
    let whole : table.Content = record { columns = node.columns; rows = rows } in
    let named_line : line ≡ answer_line (answer_file node party) (length rows) =
    says ∙ ap (λ f. answer_line f (length given.rows)) named ∙ ap (answer_line (answer_file node party)) (kept.lengths given.rows rows bag) in
    record {
      writes_are = ap (map write_of) pushed ∙ map_push write_of old.writes.items (file, text)
          ∙ ap (λ w. map write_of old.writes.items ++ w ∷ []) (same_write (string_bytes file) (answer_file node party) text.items (answer_of whole) named (written ∙ equal given whole columns bag));
      output_is = printed ∙ ap (λ l. old.output.items ++ l) (named_line ∙ sym (append-nil (answer_line (answer_file node party) (length rows))));
    }

-- it is that of the node that an output names
pub answered_at : (rows : List (List (List ℕ))) (number : ℕ) (nodes : List Node) (node : Node) (party : Party) (old new : Results) → slice_get nodes number ≡ Some node
    → AreAnswered (record { node = node; rows = slice_index_or rows number []; party = party } ∷ []) old new → AreAnswered (answers_at rows (party ∷ []) number (slice_get nodes number)) old new
answered_at rows number nodes node party old new is answered = subst (λ n. AreAnswered (answers_at rows (party ∷ []) number n) old new) (sym is) answered

-- the rows in a recipient's slots have the bag of its answer
pub table_bag : (plan : Plan) (tables : List table.Content) (slots : Three (Vec (Vec ℕ Global) Global)) (own : Vec (Vec ℕ Global) Global) (number named : ℕ) (output : Output) (party : Party)
    → HoldAnswers plan tables (each word_lists slots) → slice_get plan.graph.outputs number ≡ Some output → has output.recipients (number_of party) ≡ true → own ≡ at party slots → named ≡ number_of party
    → SameBag (answer_rows plan output number (party_of named) (word_lists own)) (rows_of (meanings plan.graph.nodes (rows_of_tables tables)) output.node)
table_bag plan tables slots own number named output party hold here has_it own_is is =
    let meant = rows_of (meanings plan.graph.nodes (rows_of_tables tables)) output.node in
    let same_party : party_of named ≡ party = ap party_of is ∙ party_of_number party in
    let same_slots : at party (each word_lists slots) ≡ word_lists own = at_each word_lists party slots ∙ ap word_lists (sym own_is) in
    subst (λ p. SameBag (answer_rows plan output number p (word_lists own)) meant) (sym same_party)
    (subst (λ ws. SameBag (answer_rows plan output number party ws) meant) same_slots (hold number output party here has_it))

-- one slot more
taken_slot : (slots : List (List ℕ)) (i : ℕ) (own : List ℕ) → slice_get slots i ≡ Some own → take (i + 1) slots ≡ take i slots ++ own ∷ []
taken_slot [] i own is = cc
taken_slot (x ∷ xs) zero own is = let e : x ≡ own = cc in ap (λ z. z ∷ []) e
taken_slot (x ∷ xs) (suc i) own is = let e : suc i + 1 ≡ suc (i + 1) = omega arith in ap (λ n. take n (x ∷ xs)) e ∙ ap (λ ys. x ∷ ys) (taken_slot xs i own is)

pub one_slot : (slots : List (List ℕ)) (i : ℕ) (old new : Vec (Vec ℕ Global) Global) (words : Vec ℕ Global) (own : List ℕ) → word_lists old ≡ take i slots → Some own ≡ slice_get slots i → words.items ≡ own
    → new.items ≡ old.items ++ words ∷ [] → word_lists new ≡ take (i + 1) slots
one_slot slots i old new words own so_far here given pushed =
    ap (map (λ (row : Vec ℕ Global). row.items)) pushed
    ∙ map_push (λ (row : Vec ℕ Global). row.items) old.items words
    ∙ ap (λ ls. ls ++ words.items ∷ []) so_far
    ∙ ap (λ w. take i slots ++ w ∷ []) given
    ∙ sym (taken_slot slots i own (sym here))

-- ---- for each recipient

among_one : (set : Parties) (party : Party) → has set (number_of party) ≡ true → among set (party ∷ []) ≡ party ∷ []
among_one set party is = ap (λ b. cond b (party ∷ []) []) is

pub answered_recipient : (rows : List (List (List ℕ))) (set : Parties) (party : Party) (number : ℕ) (node : Option Node) (old new : Results) → has set (number_of party) ≡ true
    → AreAnswered (answers_at rows (party ∷ []) number node) old new → AreAnswered (answers_at rows (among set (party ∷ [])) number node) old new
answered_recipient rows set party number node old new is answered = subst (λ ps. AreAnswered (answers_at rows ps number node) old new) (sym (among_one set party is)) answered

answers_more : (rows : List (List (List ℕ))) (first more : List Party) (number : ℕ) (node : Option Node)
    → answers_at rows (first ++ more) number node ≡ answers_at rows first number node ++ answers_at rows more number node
answers_more rows first more number None = refl
answers_more rows first more number (Some node) =
    let to : Party → Answer = λ party. record { node = node; rows = slice_index_or rows number []; party = party } in
    map-append to first more

recipients_apart : (set : Parties) → (among set (First ∷ []) ++ among set (Second ∷ [])) ++ among set (Third ∷ []) ≡ recipients_of set
recipients_apart set =
    let test = λ (party : Party). has set (number_of party) in
    ap (λ ps. ps ++ filter test (Third ∷ [])) (sym (filter-append test (First ∷ []) (Second ∷ []))) ∙ sym (filter-append test (First ∷ Second ∷ []) (Third ∷ []))

pub answered_recipients : (rows : List (List (List ℕ))) (set : Parties) (number : ℕ) (node : Option Node) (old first second new : Results) → AreAnswered (answers_at rows (among set (First ∷ [])) number node) old first
    → AreAnswered (answers_at rows (among set (Second ∷ [])) number node) first second → AreAnswered (answers_at rows (among set (Third ∷ [])) number node) second new
    → AreAnswered (answers_at rows (recipients_of set) number node) old new
answered_recipients rows set number node old first second new a b c =
    let one = among set (First ∷ []) in
    let two = among set (Second ∷ []) in
    let three = among set (Third ∷ []) in
    let all : (answers_at rows one number node ++ answers_at rows two number node) ++ answers_at rows three number node ≡ answers_at rows (recipients_of set) number node =
    ap (λ all. all ++ answers_at rows three number node) (sym (answers_more rows one two number node)) ∙ sym (answers_more rows (one ++ two) three number node)
    ∙ ap (λ ps. answers_at rows ps number node) (recipients_apart set) in
    subst (λ more. AreAnswered more old new) all
    (answered_then (answers_at rows one number node ++ answers_at rows two number node) (answers_at rows three number node) old second new
    (answered_then (answers_at rows one number node) (answers_at rows two number node) old first second a b) c)

-- ---- for each output

taken_more : {A B : Type 0} (f : A → List B) (xs : List A) (i : ℕ) (x : A) → slice_get xs i ≡ Some x → flat_map f (take (i + 1) xs) ≡ flat_map f (take i xs) ++ f x
taken_more f [] i x is = cc
taken_more f (y ∷ xs) zero x is = let e : y ≡ x = cc in append-nil (f y) ∙ ap f e
taken_more f (y ∷ xs) (suc i) x is =
    let e : suc i + 1 ≡ suc (i + 1) = omega arith in
    ap (λ n. flat_map f (take n (y ∷ xs))) e ∙ ap (λ ys. f y ++ ys) (taken_more f xs i x is) ∙ sym (append_assoc (f y) (flat_map f (take i xs)) (f x))

answered_more : (f : Output → List Answer) (outputs : List Output) (i : ℕ) (output : Output) (old mid new : Results) → slice_get outputs i ≡ Some output → AreAnswered (flat_map f (take i outputs)) old mid
    → AreAnswered (f output) mid new → AreAnswered (flat_map f (take (i + 1) outputs)) old new
answered_more f outputs i output old mid new is so_far here =
    subst (λ more. AreAnswered more old new) (sym (taken_more f outputs i output is)) (answered_then (flat_map f (take i outputs)) (f output) old mid new so_far here)

pub answered_next : (f : Output → List Answer) (outputs items : List Output) (i : ℕ) (d : Output) (old mid new : Results) → items ≡ outputs → i < length items
    → AreAnswered (flat_map f (take i outputs)) old mid → AreAnswered (f (get_or items i d)) mid new → AreAnswered (flat_map f (take (i + 1) outputs)) old new
answered_next f outputs items i d old mid new same within so_far here =
    answered_more f outputs i (get_or items i d) old mid new (ap (λ os. slice_get os i) (sym same) ∙ slice_get-get_or items i d within) so_far here

-- ---- all of a run, from nothing

pub all_writes : (views : List (List ℕ × List ℕ)) (answers : List Answer) (start mid new : Results) → start.writes.items ≡ [] → AreAdded views start mid → AreAnswered answers mid new
    → map write_of new.writes.items ≡ views ++ map answer_write answers
all_writes views answers start mid new empty a b = b.writes_are ∙ ap (λ ws. ws ++ map answer_write answers) (a.writes_are ∙ ap (λ ws. map write_of ws ++ views) empty)

pub all_output : (views : List (List ℕ × List ℕ)) (answers : List Answer) (start mid new : Results) → start.output.items ≡ [] → AreAdded views start mid → AreAnswered answers mid new
    → new.output.items ≡ flat_map line_of answers
all_output views answers start mid new empty a b = b.output_is ∙ ap (λ bs. bs ++ flat_map line_of answers) (a.output_is ∙ empty)
