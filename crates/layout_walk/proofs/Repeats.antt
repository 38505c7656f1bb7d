-- Values that are read one after the other, in a loop.
use Rattle.std.proofs.Common.{suc, ◌≡◌, ℕ, ◌+◌, ◌-◌, ◌<◌, ◌≤◌, List, [], ◌∷◌, ◌++◌, Result, Ok, Err, refl, sym, ◌∙◌, ◌⊎◌, inl, inr, arith}
use Rattle.packing_laws.specs.declared.fault.ReadFault.{ReadFault}
use Rattle.packing_laws.specs.declared.fault.ReadFault.TheVariants.{Memory}
use Rattle.packing_laws.specs.Places.{Place, several}

module _ {A : Type 0} (each : List A → Place → Result (A × Place) ReadFault) where
  several_first : (n : ℕ) (xs : List A) (p : Place) (x : A) (q : Place) → each xs p ≡ Ok (x, q) → several (suc n) each xs p ≡ several n each (xs ++ x ∷ []) q
  several_first n xs p x q e = rw e refl

  several_first_fault : (n : ℕ) (xs : List A) (p : Place) (e : ReadFault) → each xs p ≡ Err e → several (suc n) each xs p ≡ Err e
  several_first_fault n xs p e h = rw h refl

  -- the next value is read
  pub several-more : (n i : ℕ) (xs : List A) (p : Place) (x : A) (q : Place) → i < n → each xs p ≡ Ok (x, q) → several (n - (i + 1)) each (xs ++ x ∷ []) q ≡ several (n - i) each xs p
  several-more n i xs p x q lt h =
      let count : n - i ≡ suc (n - (i + 1)) = omega arith in
      rw count (sym (several_first (n - (i + 1)) xs p x q h))

  -- the next value has a fault
  pub several-fault : (n i : ℕ) (xs : List A) (p : Place) (e : ReadFault) → i < n → each xs p ≡ Err e → several (n - i) each xs p ≡ Err e
  several-fault n i xs p e lt h =
      let count : n - i ≡ suc (n - (i + 1)) = omega arith in
      rw count (several_first_fault (n - (i + 1)) xs p e h)

  -- a fault of the next value, or want of memory, is one of the whole
  pub several-fails : (n i : ℕ) (xs : List A) (p : Place) (e : ReadFault) (whole : Result (List A × Place) ReadFault) → i < n → several (n - i) each xs p ≡ whole → (e ≡ Memory) ⊎ (each xs p ≡ Err e) → (e ≡ Memory) ⊎ (whole ≡ Err e)
  several-fails n i xs p e whole lt same (inl m) = inl m
  several-fails n i xs p e whole lt same (inr h) = inr (sym same ∙ several-fault n i xs p e lt h)

  -- all values are read
  pub several-all : (n i : ℕ) (xs : List A) (p : Place) → n ≤ i → several (n - i) each xs p ≡ Ok (xs, p)
  several-all n i xs p le =
      let count : n - i ≡ 0 = omega arith in
      rw count refl

pub ruleset repeats = (several-more, several-fault, several-all)
