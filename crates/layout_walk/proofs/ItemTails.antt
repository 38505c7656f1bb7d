-- The end of an instance's text, in either layout: the number of items, the items and the caps.
use Rattle.std.proofs.Common.{◌≡◌, ℕ, ◌≤◌, List, [], ◌∷◌, ◌++◌, length, Result, Ok, refl, sym, subst, arith}
use Rattle.std.specs.List.{flat_map}
use Rattle.arc_num.specs.declared.TheConstants.{MAX_DIMS, MAX_ITEMS}
use Rattle.packing_laws.specs.declared.fault.ReadFault.{ReadFault}
use Rattle.packing_laws.specs.declared.fault.ReadFault.TheVariants.{Short, NotNumber, Range, Extra}
use Rattle.packing_laws.specs.declared.instances.Item.{Item}
use Rattle.packing_laws.specs.declared.instances.ItemCap.{ItemCap}
use Rattle.packing_laws.specs.Instances.{InstanceValue, AreCaps}
use Rattle.packing_laws.specs.Places.{Place, ◌>>=◌, next_number, several}
use Rattle.packing_laws.specs.Layouts.{Field, Number, caps_at}
use Rattle.layout_walk.proofs.Rows.{Passes, Passes-join, Passes-split, IsExact, EachLawful, several-exact, read_both, both_read}
use Rattle.layout_walk.proofs.Numerals.{number-exact}
use Rattle.layout_walk.proofs.CapRows.{Walked, caps_sound, caps_complete}
use Rattle.layout_walk.proofs.Faults.{FaultsAre, faults-then, faults-none, faults-number, faults-several, faults-caps}

-- items and caps that tokens spell from a place on: the number of items, the items and the caps
pub record Tail (dims : ℕ) (row : Item → List Field) (Lawful : List Item → Item → Type 0) (p : Place) (xs : List Item) (ks : List ItemCap) : Type 0 where
  pub count : length xs ≤ MAX_ITEMS
  pub items : EachLawful Lawful [] xs
  pub caps : AreCaps dims (length xs) ks
  pub walk : Walked p (Number (length xs) ∷ flat_map row xs) ks

-- how an item is read behind those that are there, in so many dimensions, and what instance items and caps make
module _ (each : List Item → Place → Result (Item × Place) ReadFault) (dims : ℕ) (make : List Item → List ItemCap → InstanceValue) where
  abbrev pub after_items : ℕ → List Item × Place → Result InstanceValue ReadFault
  after_items m xs = caps_at dims m xs.1 >>= (λ ks. Ok (make xs.0 ks))

  abbrev pub after_item_count : ℕ × Place → Result InstanceValue ReadFault
  after_item_count m = several m.0 each [] m.1 >>= after_items m.0

  abbrev pub tail_at : Place → Result InstanceValue ReadFault
  tail_at p = next_number 0 MAX_ITEMS p >>= after_item_count

  module _ (row : Item → List Field) (Lawful : List Item → Item → Type 0) (exact : (xs : List Item) → IsExact (each xs) row (Lawful xs)) where
    pub tail_sound : (p : Place) (I : InstanceValue) → dims ≤ MAX_DIMS → tail_at p ≡ Ok I → (xs : List Item) × ((ks : List ItemCap) × ((make xs ks ≡ I) × Tail dims row Lawful p xs ks))
    tail_sound p I l h =
        let a = read_both (next_number 0 MAX_ITEMS p) after_item_count I h in
        let m = a.0 in
        let b = read_both (several m.0 each [] m.1) (after_items m.0) I a.1.1 in
        let xs = b.0 in
        let d = read_both (caps_at dims m.0 xs.1) (λ (ks : List ItemCap). Ok (make xs.0 ks)) I b.1.1 in
        let ks = d.0 in
        let value : make xs.0 ks ≡ I = cc (d.1.1) in
        let m_part = (number-exact 0 MAX_ITEMS).sound p m.0 m.1 a.1.0 in
        let xs_part = (several-exact each row Lawful exact m.0).sound m.1 xs.0 xs.1 b.1.0 in
        let ks_part = caps_sound dims m.0 xs.1 ks l d.1.0 in
        let count = subst (λ (z : ℕ). Passes p (Number z ∷ []) m.1) (sym xs_part.0.0) m_part.1 in
        let passed = Passes-join p (Number (length xs.0) ∷ []) (flat_map row xs.0) m.1 xs.1 count xs_part.1 in
        let tail : Tail dims row Lawful p xs.0 ks = record { count = omega (arith, xs_part.0.0, m_part.0.1); items = xs_part.0.1; caps = subst (λ (z : ℕ). AreCaps dims z ks) (sym xs_part.0.0) ks_part.0; walk = (xs.1, (passed, ks_part.1)) } in
        (xs.0, (ks, (value, tail)))

    pub tail_complete : (p : Place) (xs : List Item) (ks : List ItemCap) → Tail dims row Lawful p xs ks → tail_at p ≡ Ok (make xs ks)
    tail_complete p xs ks tail =
        let q = tail.walk.0 in
        let a = Passes-split p (Number (length xs) ∷ []) (flat_map row xs) q tail.walk.1.0 in
        let m_read = (number-exact 0 MAX_ITEMS).complete p (length xs) a.0 (omega arith, tail.count) a.1.0 in
        let xs_read = (several-exact each row Lawful exact (length xs)).complete a.0 xs q (refl, tail.items) a.1.1 in
        let ks_read = caps_complete dims (length xs) q ks tail.caps tail.walk.1.1 in
        both_read (next_number 0 MAX_ITEMS p) after_item_count (length xs, a.0) (make xs ks) m_read
        (both_read (several (length xs) each [] a.0) (after_items (length xs)) (xs, q) (make xs ks) xs_read
        (both_read (caps_at dims (length xs) q) (λ (z : List ItemCap). Ok (make xs z)) ks (make xs ks) ks_read refl))

  module _ (P : ReadFault → Type 0) (short : (k : ℕ) → P (Short k)) (not_number : (k : ℕ) → P (NotNumber k)) (range : (k : ℕ) → P (Range k)) (extra : (k : ℕ) → P (Extra k)) (faults : (xs : List Item) (p : Place) → FaultsAre P (each xs p)) where
    pub tail_faults : (p : Place) → FaultsAre P (tail_at p)
    tail_faults p =
        faults-then P (next_number 0 MAX_ITEMS p) after_item_count (faults-number P short not_number range 0 MAX_ITEMS p)
        (λ m. faults-then P (several m.0 each [] m.1) (after_items m.0) (faults-several P each faults m.0 [] m.1)
        (λ xs. faults-then P (caps_at dims m.0 xs.1) (λ (ks : List ItemCap). Ok (make xs.0 ks)) (faults-caps P short not_number range extra dims m.0 xs.1) (λ ks. faults-none P (make xs.0 ks))))

-- a row in front of what is walked
pub walked-join : (p : Place) (r s : List Field) (m : Place) (ks : List ItemCap) → Passes p r m → Walked m s ks → Walked p (r ++ s) ks
walked-join p r s m ks h w = (w.0, (Passes-join p r s m w.0 h w.1.0, w.1.1))

pub walked-split : (p : Place) (r s : List Field) (ks : List ItemCap) → Walked p (r ++ s) ks → (m : Place) × (Passes p r m × Walked m s ks)
walked-split p r s ks w = let parts = Passes-split p r s w.0 w.1.0 in (parts.0, (parts.1.0, (w.0, (parts.1.1, w.1.1))))
