-- Words without an equals sign, and words part by part.
use Rattle.std.proofs.Common.{◌≡◌, ℕ, ◌+◌, ◌<◌, Bool, true, false, not, cond, ◌||◌, List, [], ◌∷◌, ◌++◌, length, get_or, take, drop, drop-cons, length-drop, ◌-◌, map, suc, refl, ap, sym, ◌∙◌, append_assoc, arith}
use Rattle.std.specs.List.{list_any, position_or_len}
use Rattle.std.proofs.lemmas.List.{take_all}
use Rattle.command_words.specs.Words.{Word, is_end}
use Rattle.command_words.specs.Parts.{PartValue, part_at, takes_next, plain_parts, parts_from}

one_more : (b : Bool) (n m : ℕ) (any : Bool) → (n ≡ m → any ≡ false) → cond (not b) (1 + n) 0 ≡ suc m → (b || any) ≡ false
one_more true n m any rest h = absurd (omega arith)
one_more false n m any rest h = rest (omega arith)

-- where no element passes the test up to the end, none passes it
pub none_passes : (p : ℕ → Bool) (xs : List ℕ) → position_or_len p xs ≡ length xs → list_any p xs ≡ false
none_passes p [] h = refl
none_passes p (x ∷ xs) h = one_more (p x) (position_or_len p xs) (length xs) (list_any p xs) (none_passes p xs) h

-- what is left of a list, by its first element
pub drop_step : {A : Type 0} (xs : List A) (i : ℕ) (x : A) → i < length xs → get_or xs i x ≡ x → drop i xs ≡ x ∷ drop (i + 1) xs
drop_step {A} xs i x lt e =
    let one : suc i ≡ i + 1 = omega arith in
    drop-cons xs i x lt ∙ (ap (λ (v : A). v ∷ drop (suc i) xs) e ∙ ap (λ (n : ℕ). x ∷ drop n xs) one)

-- a word that belongs to the part before it is passed over
pub owned_step : {A : Type 0} (f : A → Word) (xs : List A) (i : ℕ) (x : A) → i < length xs → get_or xs i x ≡ x → parts_from true (i + 2) (map f (drop i xs)) ≡ parts_from false (i + 1 + 2) (map f (drop (i + 1) xs))
owned_step {A} f xs i x lt e =
    let next : i + 2 + 1 ≡ i + 1 + 2 = omega arith in
    ap (λ (ys : List A). parts_from true (i + 2) (map f ys)) (drop_step xs i x lt e) ∙ ap (λ (k : ℕ). parts_from false k (map f (drop (i + 1) xs))) next

chosen : (b : Bool) (xs ys : List PartValue) → b ≡ false → cond b xs ys ≡ ys
chosen true xs ys h = absurd (cc)
chosen false xs ys h = refl

-- a word that begins a part
pub part_step : {A : Type 0} (f : A → Word) (xs : List A) (i : ℕ) (x : A) (p : PartValue) → i < length xs → get_or xs i x ≡ x → is_end (f x) ≡ false → p ≡ part_at (i + 2) (f x) (map f (drop (i + 1) xs)) → parts_from false (i + 2) (map f (drop i xs)) ≡ p ∷ parts_from (takes_next p) (i + 1 + 2) (map f (drop (i + 1) xs))
part_step {A} f xs i x p lt e open_still is =
    let next : i + 2 + 1 ≡ i + 1 + 2 = omega arith in
    let ws = map f (drop (i + 1) xs) in
    ap (λ (ys : List A). parts_from false (i + 2) (map f ys)) (drop_step xs i x lt e)
    ∙ (chosen (is_end (f x)) (plain_parts (i + 2 + 1) ws) (part_at (i + 2) (f x) ws ∷ parts_from (takes_next (part_at (i + 2) (f x) ws)) (i + 2 + 1) ws) open_still
    ∙ (ap (λ (q : PartValue). q ∷ parts_from (takes_next q) (i + 2 + 1) ws) (sym is)
    ∙ ap (λ (k : ℕ). p ∷ parts_from (takes_next p) k ws) next))

-- one more part
pub part_joined : (all old here rest new : List PartValue) (p : PartValue) → all ≡ old ++ here → here ≡ p ∷ rest → new ≡ old ++ p ∷ [] → all ≡ new ++ rest
part_joined all old here rest new p a h n = a ∙ (ap (λ (xs : List PartValue). old ++ xs) h ∙ (sym (append_assoc old (p ∷ []) rest) ∙ ap (λ (xs : List PartValue). xs ++ rest) (sym n)))

-- the words from one place to the end
pub tail_words : {A : Type 0} (f : A → Word) (xs : List A) (n : ℕ) → map f (take (length xs - n) (drop n xs)) ≡ map f (drop n xs)
tail_words {A} f xs n = ap (λ (ys : List A). map f ys) (take_all (length xs - n) (drop n xs) (omega (arith, length-drop n xs)))
