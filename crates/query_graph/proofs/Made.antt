-- A graph goes back to its statements, and a fault to the first that has one.
use Rattle.std.proofs.Common.{◌≡◌, ℕ, ◌+◌, ◌≤◌, Bool, true, false, cond, not, ◌||◌, List, [], ◌∷◌, ◌++◌, Option, Some, None, Result, Ok, Err, length, map, suc, zero, refl, sym, ap, ◌∙◌, subst, arith, append_assoc}
use Rattle.std.specs.Prelude.{filter, IfOk, IfErr}
use Rattle.std.specs.List.{AllZip}
use Rattle.std.specs.Str.{bytes_eq}
use Rattle.std.proofs.lemmas.List.{append-nil}
use Rattle.std.proofs.lemmas.List.Elements.{filter-append}
use Rattle.std.proofs.lemmas.Slice.Eq.{bytes_eq-Decides}
use Rattle.query_text.specs.declared.statement.Body.{Body}
use Rattle.query_text.specs.declared.statement.Body.TheVariants as bodies
use Rattle.query_text.specs.declared.statement.Statement.{Statement}
use Rattle.query_graph.specs.declared.fault.GraphFault.{GraphFault}
use Rattle.query_graph.specs.declared.fault.GraphFault.TheVariants as faults
use Rattle.query_graph.specs.declared.node.Node.{Node}
use Rattle.query_graph.specs.declared.node.Output.{Output}
use Rattle.query_graph.specs.Build.{Gives, GivesFault, empty_graph, fault_of, graph_behind, graph_of, rule_of, with_any_output, with_node, with_output, with_statement, without}
use Rattle.query_graph.specs.Content.{Content}
use Rattle.query_graph.specs.Faults.{first_fault}
use Rattle.query_graph.specs.Names.{is_node, node_number}
use Rattle.query_graph.specs.Observers.{sources_of}
use Rattle.query_graph.specs.Statements.{IsFaultOf, IsGraphOf, IsMadeOf, IsNamed, IsNodeOf, IsOutputOf, Passed, is_output}
use Rattle.query_graph.specs.Used.{unknown_columns, unknown_name, unknown_node, used_nodes}
use Rattle.query_graph.proofs.Faultless.{both_none, known_of}
use Rattle.query_graph.proofs.Lines.{fault_line}

one_more : (k : ℕ) → suc k ≡ 1 + k
one_more k = omega arith

named_step : (n : Node) (nodes : List Node) (name : List ℕ) (b r : Bool) (k : ℕ) → (b ≡ true → n.name ≡ name) → (b || r) ≡ true → (r ≡ true → IsNamed nodes k name)
    → IsNamed (n ∷ nodes) (cond (not b) (1 + k) 0) name
named_step n nodes name true r k same known rest = same refl
named_step n nodes name false r k same known rest = subst (λ j. IsNamed (n ∷ nodes) j name) (one_more k) (rest known)

-- a known name is that of the node with its number
named : (nodes : List Node) (name : List ℕ) → is_node nodes name ≡ true → IsNamed nodes (node_number nodes name) name
named [] name known = absurd cc
named (n ∷ nodes) name known =
    named_step n nodes name (bytes_eq n.name name) (is_node nodes name) (node_number nodes name) (bytes_eq-Decides n.name name).0 known (named nodes name)

names_known : (line : ℕ) (nodes : List Node) (names : List (List ℕ)) → first_fault (unknown_node line nodes) names ≡ None → AllZip (IsNamed nodes) (map (node_number nodes) names) names
names_known line nodes [] passes = tt
names_known line nodes (name ∷ names) passes =
    let none = both_none (unknown_node line nodes name) (first_fault (unknown_node line nodes) names) passes in
    (named nodes name (known_of _ _ none.0), names_known line nodes names none.1)

named_kept : (nodes more : List Node) (s : ℕ) (name : List ℕ) → IsNamed nodes s name → IsNamed (nodes ++ more) s name
named_kept [] more s name is = absurd is
named_kept (n ∷ nodes) more zero name is = is
named_kept (n ∷ nodes) more (suc s) name is = named_kept nodes more s name is

pub zip_kept : {A B : Type 0} (P Q : A → B → Type 0) → ((x : A) (y : B) → P x y → Q x y) → (xs : List A) (ys : List B) → AllZip P xs ys → AllZip Q xs ys
zip_kept P Q each [] [] all = tt
zip_kept P Q each [] (y ∷ ys) all = absurd all
zip_kept P Q each (x ∷ xs) [] all = absurd all
zip_kept P Q each (x ∷ xs) (y ∷ ys) all = (each x y all.0, zip_kept P Q each xs ys all.1)

zip_push : {A B : Type 0} (P : A → B → Type 0) (xs : List A) (ys : List B) (x : A) (y : B) → AllZip P xs ys → P x y → AllZip P (xs ++ x ∷ []) (ys ++ y ∷ [])
zip_push P [] [] x y all last = (last, tt)
zip_push P [] (b ∷ ys) x y all last = absurd all
zip_push P (a ∷ xs) [] x y all last = absurd all
zip_push P (a ∷ xs) (b ∷ ys) x y all last = (all.0, zip_push P xs ys x y all.1 last)

all_named_kept : (nodes more : List Node) (sources : List ℕ) (names : List (List ℕ)) → AllZip (IsNamed nodes) sources names → AllZip (IsNamed (nodes ++ more)) sources names
all_named_kept nodes more sources names all = zip_kept (IsNamed nodes) (IsNamed (nodes ++ more)) (named_kept nodes more) sources names all

node_of_kept : (nodes more : List Node) (s : Statement) (n : Node) → IsNodeOf nodes s n → IsNodeOf (nodes ++ more) s n
node_of_kept nodes more s n is = record { name = is.name; line = is.line; sources = all_named_kept nodes more (sources_of n.shape) (used_nodes s.body) is.sources }

output_of_kept : (nodes more : List Node) (s : Statement) (o : Output) → IsOutputOf nodes s o → IsOutputOf (nodes ++ more) s o
output_of_kept nodes more s o is = record { line = is.line; recipients = is.recipients; node = all_named_kept nodes more (o.node ∷ []) (used_nodes s.body) is.node }

known_names : (graph : Content) (line : ℕ) (body : Body) → fault_of graph line body ≡ None → first_fault (unknown_node line graph.nodes) (used_nodes body) ≡ None
known_names graph line body passes =
    (both_none (first_fault (unknown_node line graph.nodes) (used_nodes body)) (unknown_columns line graph.nodes body)
    (both_none (unknown_name line graph.nodes body) (rule_of graph line body) passes).0).0

filter_one : {A : Type 0} (p : A → Bool) (x : A) (b : Bool) → p x ≡ b → filter p (x ∷ []) ≡ cond b (x ∷ []) []
filter_one p x b is = ap (λ c. cond c (x ∷ []) []) is

with_kept : (graph : Content) (done : List Statement) (s : Statement) → IsMadeOf done graph → is_output s ≡ false → (n : Node)
    → IsNodeOf graph.nodes s n → IsMadeOf (done ++ s ∷ []) (with_node graph n)
with_kept graph done s made inner n is = record {
  nodes = subst (λ xs. AllZip (IsNodeOf (graph.nodes ++ n ∷ [])) xs (graph.nodes ++ n ∷ []))
      (sym (filter-append (λ s. not (is_output s)) done (s ∷ []) ∙ ap (λ xs. filter (λ s. not (is_output s)) done ++ xs) (filter_one (λ s. not (is_output s)) s true (ap not inner))))
      (zip_push (IsNodeOf (graph.nodes ++ n ∷ [])) (filter (λ s. not (is_output s)) done) graph.nodes s n
      (zip_kept (IsNodeOf graph.nodes) (IsNodeOf (graph.nodes ++ n ∷ [])) (node_of_kept graph.nodes (n ∷ [])) (filter (λ s. not (is_output s)) done) graph.nodes made.nodes)
      (node_of_kept graph.nodes (n ∷ []) s n is));
  outputs = subst (λ xs. AllZip (IsOutputOf (graph.nodes ++ n ∷ [])) xs graph.outputs)
      (sym (filter-append is_output done (s ∷ []) ∙ (ap (λ xs. filter is_output done ++ xs) (filter_one is_output s false inner) ∙ append-nil (filter is_output done))))
      (zip_kept (IsOutputOf graph.nodes) (IsOutputOf (graph.nodes ++ n ∷ [])) (output_of_kept graph.nodes (n ∷ [])) (filter is_output done) graph.outputs made.outputs);
}

with_last : (graph : Content) (done : List Statement) (s : Statement) → IsMadeOf done graph → is_output s ≡ true → (o : Output)
    → IsOutputOf graph.nodes s o → IsMadeOf (done ++ s ∷ []) (with_output graph o)
with_last graph done s made inner o is = record {
  nodes = subst (λ xs. AllZip (IsNodeOf graph.nodes) xs graph.nodes)
      (sym (filter-append (λ s. not (is_output s)) done (s ∷ []) ∙ (ap (λ xs. filter (λ s. not (is_output s)) done ++ xs) (filter_one (λ s. not (is_output s)) s false (ap not inner))
      ∙ append-nil (filter (λ s. not (is_output s)) done)))) made.nodes;
  outputs = subst (λ xs. AllZip (IsOutputOf graph.nodes) xs (graph.outputs ++ o ∷ []))
      (sym (filter-append is_output done (s ∷ []) ∙ ap (λ xs. filter is_output done ++ xs) (filter_one is_output s true inner)))
      (zip_push (IsOutputOf graph.nodes) (filter is_output done) graph.outputs s o made.outputs is);
}

step_body : (graph : Content) (done : List Statement) (line : ℕ) (body : Body) → IsMadeOf done graph → fault_of graph line body ≡ None
    → IsMadeOf (done ++ record { line = line; body = body } ∷ []) (with_statement graph line body)
step_body graph done line (bodies.Relation r) made passes =
    with_kept graph done (record { line = line; body = bodies.Relation r }) made refl _ (record { name = refl; line = refl; sources = tt })
step_body graph done line (bodies.Filter f) made passes =
    with_kept graph done (record { line = line; body = bodies.Filter f }) made refl _ (record { name = refl; line = refl; sources = names_known line graph.nodes (f.source ∷ []) (known_names graph line (bodies.Filter f) passes) })
step_body graph done line (bodies.Select s) made passes =
    with_kept graph done (record { line = line; body = bodies.Select s }) made refl _ (record { name = refl; line = refl; sources = names_known line graph.nodes (s.source ∷ []) (known_names graph line (bodies.Select s) passes) })
step_body graph done line (bodies.Concat c) made passes =
    with_kept graph done (record { line = line; body = bodies.Concat c }) made refl _ (record { name = refl; line = refl; sources = names_known line graph.nodes c.sources (known_names graph line (bodies.Concat c) passes) })
step_body graph done line (bodies.Join j) made passes =
    with_kept graph done (record { line = line; body = bodies.Join j }) made refl _ (record { name = refl; line = refl; sources = names_known line graph.nodes (j.left ∷ j.right ∷ []) (known_names graph line (bodies.Join j) passes) })
step_body graph done line (bodies.Group g) made passes =
    with_kept graph done (record { line = line; body = bodies.Group g }) made refl _ (record { name = refl; line = refl; sources = names_known line graph.nodes (g.source ∷ []) (known_names graph line (bodies.Group g) passes) })
step_body graph done line (bodies.Distinct d) made passes =
    with_kept graph done (record { line = line; body = bodies.Distinct d }) made refl _ (record { name = refl; line = refl; sources = names_known line graph.nodes (d.source ∷ []) (known_names graph line (bodies.Distinct d) passes) })
step_body graph done line (bodies.Output o) made passes =
    with_last graph done (record { line = line; body = bodies.Output o }) made refl _ (record { line = refl; recipients = refl; node = names_known line graph.nodes (o.node ∷ []) (known_names graph line (bodies.Output o) passes) })

-- what an answer for statements says
record Answers (statements : List Statement) (answer : Result Content GraphFault) : Type 0 where
  pub graph : IfOk answer (λ graph. IsGraphOf statements graph)
  pub fault : IfErr answer (λ fault. IsFaultOf statements fault)

pushed : (start : Content) (done : List Statement) (s : Statement) (graph : Content) → Passed start done graph → fault_of graph s.line s.body ≡ None
    → Passed start (done ++ s ∷ []) (with_statement graph s.line s.body)
pushed start [] s graph passed none = (subst (λ g. fault_of g s.line s.body ≡ None) passed none, ap (λ g. with_statement g s.line s.body) passed)
pushed start (d ∷ done) s graph passed none = (passed.0, pushed (with_statement start d.line d.body) done s graph passed.1 none)

first_is : (done statements : List Statement) (s : Statement) (graph : Content) (fault : GraphFault) → Passed empty_graph done graph → fault_of graph s.line s.body ≡ Some fault
    → IsFaultOf (done ++ s ∷ statements) fault
first_is done statements s graph (faults.Unknown line name) passed breaks = record { before = done; faulty = s; behind = statements; cut = refl; graph = graph; passed = passed; breaks = breaks; line = fault_line graph s.line s.body _ breaks }
first_is done statements s graph (faults.Taken line name) passed breaks = record { before = done; faulty = s; behind = statements; cut = refl; graph = graph; passed = passed; breaks = breaks; line = fault_line graph s.line s.body _ breaks }
first_is done statements s graph (faults.Kind line) passed breaks = record { before = done; faulty = s; behind = statements; cut = refl; graph = graph; passed = passed; breaks = breaks; line = fault_line graph s.line s.body _ breaks }
first_is done statements s graph (faults.Shape line) passed breaks = record { before = done; faulty = s; behind = statements; cut = refl; graph = graph; passed = passed; breaks = breaks; line = fault_line graph s.line s.body _ breaks }
first_is done statements s graph (faults.Size line) passed breaks = record { before = done; faulty = s; behind = statements; cut = refl; graph = graph; passed = passed; breaks = breaks; line = fault_line graph s.line s.body _ breaks }
first_is done statements s graph faults.NoOutput passed breaks = absurd (let wrong : None ≡ Some s.line = fault_line graph s.line s.body faults.NoOutput breaks in cc)
first_is done statements s graph faults.Memory passed breaks = tt

last_of : (graph : Content) (outputs : List Output) (done : List Statement) → outputs ≡ graph.outputs → IsMadeOf done graph → Passed empty_graph done graph
    → Answers (done ++ []) (with_any_output graph outputs)
last_of graph [] done is made passed = record {
  graph = tt;
  fault = record { graph = graph; passed = subst (λ xs. Passed empty_graph xs graph) (sym (append-nil done)) passed; none = sym is };
}
last_of graph (o ∷ outputs) done is made passed = record {
  graph = record {
    passed = subst (λ xs. Passed empty_graph xs graph) (sym (append-nil done)) passed;
    made = subst (λ xs. IsMadeOf xs graph) (sym (append-nil done)) made;
    some = subst (λ xs. 1 ≤ length xs) is (omega arith);
  };
  fault = tt;
}

one_step : (graph : Content) (done : List Statement) (s : Statement) (statements : List Statement) (o : Option GraphFault) → fault_of graph s.line s.body ≡ o
    → IsMadeOf done graph → Passed empty_graph done graph
    → (fault_of graph s.line s.body ≡ None → Answers ((done ++ s ∷ []) ++ statements) (graph_behind (with_statement graph s.line s.body) statements))
    → Answers (done ++ s ∷ statements) (without o (graph_behind (with_statement graph s.line s.body) statements))
one_step graph done s statements (Some fault) is made passed rest = record { graph = tt; fault = first_is done statements s graph fault passed is }
one_step graph done s statements None is made passed rest =
    subst (λ xs. Answers xs (graph_behind (with_statement graph s.line s.body) statements)) (append_assoc done (s ∷ []) statements) (rest is)

answers : (graph : Content) (done statements : List Statement) → IsMadeOf done graph → Passed empty_graph done graph → Answers (done ++ statements) (graph_behind graph statements)
answers graph done [] made passed = last_of graph graph.outputs done refl made passed
answers graph done (s ∷ statements) made passed =
    one_step graph done s statements (fault_of graph s.line s.body) refl made passed
    (λ none. answers (with_statement graph s.line s.body) (done ++ s ∷ []) statements (step_body graph done s.line s.body made none) (pushed empty_graph done s graph passed none))

answered : (statements : List Statement) → Answers statements (graph_of statements)
answered statements = answers empty_graph [] statements (record { nodes = tt; outputs = tt }) refl

-- what the graph of statements is, and what its fault
pub made_of : (statements : List Statement) (graph : Content) → graph_of statements ≡ Ok graph → IsGraphOf statements graph
made_of statements graph is = subst (λ answer. IfOk answer (λ g. IsGraphOf statements g)) is (answered statements).graph

pub fault_is : (statements : List Statement) (fault : GraphFault) → graph_of statements ≡ Err fault → IsFaultOf statements fault
fault_is statements fault is = subst (λ answer. IfErr answer (λ f. IsFaultOf statements f)) is (answered statements).fault

-- a fault that was given is one for the statements
pub given_is : (statements : List Statement) (fault : GraphFault) → GivesFault fault (graph_of statements) → IsFaultOf statements fault
given_is statements (faults.Unknown line name) gives = fault_is statements _ gives
given_is statements (faults.Taken line name) gives = fault_is statements _ gives
given_is statements (faults.Kind line) gives = fault_is statements _ gives
given_is statements (faults.Shape line) gives = fault_is statements _ gives
given_is statements (faults.Size line) gives = fault_is statements _ gives
given_is statements faults.NoOutput gives = fault_is statements _ gives
given_is statements faults.Memory gives = tt

-- what an answer that is exact says
pub told : (statements : List Statement) (answer : Result Content GraphFault) → Gives answer (graph_of statements)
    → (IfOk answer (λ graph. IsGraphOf statements graph)) × (IfErr answer (λ fault. IsFaultOf statements fault))
told statements (Ok graph) exact = (made_of statements graph exact, tt)
told statements (Err fault) exact = (tt, given_is statements fault exact)
