use Rattle.std.proofs.Common.{◌≡◌, ◌+◌, List, [], ◌∷◌, ◌++◌, sym, ap, ◌∙◌, arith, append_assoc}
use Rattle.std.proofs.lemmas.List.{append-nil}
use Rattle.query_tokens.specs.Lexemes.{token_of}
use Rattle.query_tokens.specs.Scan.{Place, Front}
use Rattle.query_tokens.proofs.ScanSteps.{scan_from, scan_start, scan_ends, scan_comment, scan_blank, token_within, bad_step, good_step}
use Rattle.query_tokens.proofs.scan.scan_line.Goals as goal

pub loop-at-init : goal.loop-at-init
loop-at-init c = (ap (λ (l : List Place). c.args.tokens.now.items ++ l) (scan_start c.args.line.now), omega arith)

pub returns-then-line-at-eq35 : goal.returns-then-line-at-eq35
returns-then-line-at-eq35 c =
    let ended = scan_comment c.args.line.now c.loop-at.at c.loop-at-test.true c.if-line-at-eq35.true in
    sym (append-nil c.loop-at.tokens.items) ∙ ap (λ (l : List Place). c.loop-at.tokens.items ++ l) (sym ended) ∙ c.loop-at.invariant.0

pub loop-at-preserved-then-is_blank : goal.loop-at-preserved-then-is_blank
loop-at-preserved-then-is_blank c =
    let over = scan_blank c.args.line.now c.loop-at.at c.loop-at-test.true (sym c.is_blank.ensures ∙ c.if-is_blank.true) in
    (ap (λ (l : List Place). c.loop-at.tokens.items ++ l) (sym over) ∙ c.loop-at.invariant.0, omega arith)

pub returns-then-bad : goal.returns-then-bad
returns-then-bad c =
    let f : Front = (token_of c.front-len.result.0, c.front-len.result.1) in
    let last = bad_step c.args.line.now c.loop-at.at f c.loop-at-test.true (sym c.is_blank.ensures ∙ c.if-is_blank.false) c.if-line-at-eq35.false c.front-len.ensures (sym c.is_bad-bad.ensures ∙ c.if-bad.true) in
    c.in_ok-push.ensures.items ∙ ap (λ (p : Place). c.loop-at.tokens.items ++ p ∷ []) c.new.ensures ∙ ap (λ (l : List Place). c.loop-at.tokens.items ++ l) (sym last) ∙ c.loop-at.invariant.0

pub overflow_add-at-else-is_blank-2 : goal.overflow_add-at-else-is_blank-2
overflow_add-at-else-is_blank-2 c =
    let f : Front = (token_of c.front-len.result.0, c.front-len.result.1) in
    let w = token_within c.args.line.now c.loop-at.at f c.loop-at-test.true c.front-len.ensures (sym c.is_bad-bad.ensures ∙ c.if-bad.false) in
    omega (arith, w.1)

pub loop-at-smaller : goal.loop-at-smaller
loop-at-smaller c =
    let f : Front = (token_of c.front-len.result.0, c.front-len.result.1) in
    let w = token_within c.args.line.now c.loop-at.at f c.loop-at-test.true c.front-len.ensures (sym c.is_bad-bad.ensures ∙ c.if-bad.false) in
    omega (arith, w.0, w.1)

pub loop-at-preserved : goal.loop-at-preserved
loop-at-preserved c =
    let f : Front = (token_of c.front-len.result.0, c.front-len.result.1) in
    let good = sym c.is_bad-bad.ensures ∙ c.if-bad.false in
    let w = token_within c.args.line.now c.loop-at.at f c.loop-at-test.true c.front-len.ensures good in
    let next = good_step c.args.line.now c.loop-at.at f c.loop-at-test.true (sym c.is_blank.ensures ∙ c.if-is_blank.false) c.if-line-at-eq35.false c.front-len.ensures good in
    let rest = scan_from c.args.line.now (c.loop-at.at + c.front-len.result.1) in
    let items : c.push.new.self.items ≡ c.loop-at.tokens.items ++ (f.0, c.loop-at.at + 1) ∷ [] = c.in_ok-push.ensures.items ∙ ap (λ (p : Place). c.loop-at.tokens.items ++ p ∷ []) c.new.ensures in
    (ap (λ (l : List Place). l ++ rest) items ∙ append_assoc c.loop-at.tokens.items ((f.0, c.loop-at.at + 1) ∷ []) rest ∙ ap (λ (l : List Place). c.loop-at.tokens.items ++ l) (sym next) ∙ c.loop-at.invariant.0, w.1)

pub returns : goal.returns
returns c =
    let ended = scan_ends c.args.line.now c.loop-at.at c.loop-at-test.false in
    sym (append-nil c.loop-at.tokens.items) ∙ ap (λ (l : List Place). c.loop-at.tokens.items ++ l) (sym ended) ∙ c.loop-at.invariant.0
