-- How far a step comes, and what is behind it, where all words are there.
use Rattle.std.proofs.Common.{◌≡◌, ℕ, ◌≤◌, None, List, [], ◌∷◌, length, take, drop, refl, ap, ◌∙◌, arith}
use Rattle.std.specs.Prelude.{nat_lt, is_some, if◌then◌else◌}
use Rattle.std.proofs.lemmas.Bool.{le-ltb, cond-false}
use Rattle.std.proofs.lemmas.List.{length-drop}
use Rattle.lanes.specs.declared.party.Party.{Party}
use Rattle.lanes.specs.declared.party.Party.TheVariants.{First, Second, Third}
use Rattle.lanes.specs.declared.three.Three.{Three}
use Rattle.lanes.specs.Three.{at}
use Rattle.step_lists.specs.Draws.{parties, joined}
use Rattle.step_lists.specs.Part.{Part, Progress, progress, lacks, used_up, one_more, count_from, went, all_sent, more_taken}
use Rattle.party_laws.proofs.Lists.{take_whole, take_more_than_all}
use Rattle.party_laws.proofs.Threes.{at_parties, more_count}

pub lacks_none : (t : Three ℕ) (got : Three (List ℕ)) → ((p : Party) → at p t ≤ length (at p got)) → lacks t got ≡ None
lacks_none t got h =
    cond-false (nat_lt (length got.first) t.first) _ _ (le-ltb (length got.first) t.first (h First))
    ∙ (cond-false (nat_lt (length got.second) t.second) _ _ (le-ltb (length got.second) t.second (h Second))
    ∙ cond-false (nat_lt (length got.third) t.third) _ _ (le-ltb (length got.third) t.third (h Third)))

abbrev pub passes : ℕ → Progress
passes n = record { passed = n; early = None }

pub progress_all : (ts : List (Three ℕ)) (got : Three (List ℕ)) → ((p : Party) → count_from p ts ≤ length (at p got)) → progress ts got ≡ passes (length ts)
progress_all [] got h = refl
progress_all (t ∷ ts) got h =
    let left = parties (λ p. drop (at p t) (at p got)) in
    let none = lacks_none t got (λ p. omega (arith, more_count p t ts, h p)) in
    let more = progress_all ts left (λ p. omega (arith, more_count p t ts, h p, ap length (at_parties (λ q. drop (at q t) (at q got)) p), length-drop (at p t) (at p got))) in
    ap (λ o. if is_some o then record { passed = 0; early = used_up o } else one_more (progress ts left)) none ∙ ap one_more more

-- a step that comes to its end
pub went_through : (sends : List (Three (List ℕ))) (takes : List (Three ℕ)) (a b : Part) → length sends ≡ length takes
    → went (passes (length takes)) sends takes a b ≡ record b { sent = joined a.sent (all_sent sends); taken = more_taken a.taken takes }
went_through sends takes a b e =
    ap (λ x. record b { sent = joined a.sent (all_sent x); taken = more_taken a.taken (take (length takes) takes) }) (take_more_than_all (length takes) sends e)
    ∙ ap (λ x. record b { sent = joined a.sent (all_sent sends); taken = more_taken a.taken x }) (take_whole (length takes) takes refl)
