-- What is known of a call that gave its result.
use Rattle.std.specs.Prelude.{Result, Ok, Err, IfOk, OnOk}

pub ok_so : {A E : Type 0} (P Q : A → Type 0) (r : Result A E) → ((x : A) → P x → Q x) → IfOk r P → IfOk r Q
ok_so P Q (Ok x) f h = f x h
ok_so P Q (Err e) f h = tt

pub on_ok_so : {A E P Q : Type 0} (r : Result A E) → (P → Q) → OnOk r P → OnOk r Q
on_ok_so (Ok x) f h = f h
on_ok_so (Err e) f h = tt
