-- The numbers from 1 to n.
use Rattle.std.proofs.Common.{◌≡◌, ℕ, zero, suc, ◌+◌, ◌-◌, List, [], ◌∷◌, ◌++◌, length, map, get_or, refl, sym, ap, ◌∙◌, subst, ⊎_elim, arith, All, length-append, sum_by}
use Rattle.std.specs.Prelude.{Contains}
use Rattle.std.proofs.lemmas.Bool.{cases_eq}
use Rattle.std.proofs.lemmas.List.{get_or-map, get_or_append_left, get_or-append_right, length-map}
use Rattle.std.proofs.lemmas.List.Elements.{All-nil, All-push, Contains-append_left, Contains-push}
use Rattle.std.proofs.lemmas.List.Sums.{sum_by-append, sum_by-cons}
use Rattle.packing_laws.specs.Instances.{IsAmong}
use Rattle.packing_laws.proofs.Sums.{sum_to}
use Rattle.flow_model.specs.Flows.{up_to}

pub contains_up_to : (n t : ℕ) → IsAmong t n → Contains (up_to n) t
contains_up_to zero t among = absurd (omega (arith, among.0, among.1))
contains_up_to (suc n) t among = ⊎_elim
    (λ same. subst (Contains (up_to n ++ suc n ∷ [])) (sym same) (Contains-push (up_to n) (suc n)))
    (λ other. Contains-append_left (up_to n) (suc n ∷ []) t (contains_up_to n t (among.0, omega (arith, among.1, other))))
    (cases_eq t (suc n))

pub contains_map : {X Y : Type 0} (f : X → Y) (xs : List X) (x : X) → Contains xs x → Contains (map f xs) (f x)
contains_map f xs x has = (has.0, (let long = length-map xs f in omega (arith, long, has.1)), get_or-map f xs has.0 x (f x) has.1 ∙ ap f has.2)

pub length_up_to : (n : ℕ) → length (up_to n) ≡ n
length_up_to zero = refl
length_up_to (suc n) = let rest = length_up_to n in let long = length-append (up_to n) (suc n ∷ []) in omega (arith, rest, long)

pub up_to_read : (n v : ℕ) → IsAmong v n → get_or (up_to n) (v - 1) 0 ≡ v
up_to_read zero v among = absurd (omega (arith, among.0, among.1))
up_to_read (suc n) v among =
    let long = length_up_to n in
    ⊎_elim
    (λ same.
    let right = get_or-append_right (up_to n) (suc n ∷ []) n (v - 1) 0 long (omega (arith, same)) in
    let place : v - 1 - n ≡ 0 = omega (arith, same) in
    right ∙ ap (λ k. get_or (suc n ∷ []) k 0) place ∙ sym same)
    (λ other. get_or_append_left (up_to n) (suc n ∷ []) 0 (v - 1) (omega (arith, among.0, among.1, other, long)) ∙ up_to_read n v (among.0, omega (arith, among.1, other)))
    (cases_eq v (suc n))

pub all_up_to : (P : ℕ → Type 0) (n : ℕ) → ((i : ℕ) → IsAmong i n → P i) → All P (up_to n)
all_up_to P zero each = All-nil P
all_up_to P (suc n) each = All-push P (up_to n) (suc n) (all_up_to P n (λ i among. each i (among.0, omega (arith, among.1)))) (each (suc n) (omega arith, omega arith))

pub sum_up_to : (f : ℕ → ℕ) (n : ℕ) → sum_by f (up_to n) ≡ sum_to f n
sum_up_to f zero = refl
sum_up_to f (suc n) =
    let rest = sum_up_to f n in
    let parts = sum_by-append f (up_to n) (suc n ∷ []) in
    let last : sum_by f (suc n ∷ []) ≡ f (suc n) + sum_by f [] = sum_by-cons f (suc n) [] in
    omega (arith, rest, parts, last)
