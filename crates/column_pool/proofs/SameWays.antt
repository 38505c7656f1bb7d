-- Ways are the same exactly where `==` says so, and what that tells of the ways of a pool.
use Rattle.std.proofs.Common.{◌≡◌, ℕ, ◌++◌, ◌∷◌, [], Bool, true, false, ◌&&◌, nat_eq, List, length, get_or, position, slice_get, Option, None, Some, is_some, refl, sym, ap, ◌∙◌, subst, eqb-true, rules}
use Rattle.std.specs.Prelude.{Contains}
use Rattle.std.specs.Bool.{Decides}
use Rattle.std.specs.Cmp.{IsEquivalence}
use Rattle.std.specs.Cmp.Rules.{comparing}
use Rattle.std.specs.Cmp.Lexicographic.{pointwise, same_text}
use Rattle.std.specs.List.{IsDistinct}
use Rattle.std.proofs.lemmas.Bool.{and_parts, false≢true}
use Rattle.std.proofs.lemmas.Option.{slice_get_read}
use Rattle.std.proofs.lemmas.List.Quantifiers.{position-Some}
use Rattle.std.proofs.lemmas.Map.Made.{AllPairs-from_IsDistinct}
use Rattle.std.proofs.lemmas.Map.Views.{Contains-keys_from_lookup, IsSome-lookup_from_Contains}
use Rattle.indexmap.specs.IndexMap.{IndexMap, get, keys, insert_entry}
use Rattle.indexmap.proofs.CallerLemmas.{insert_entry-new}
use Rattle.column_pool.specs.declared.ways.Way.{Way}
use Rattle.column_pool.specs.declared.columns.Column.{Column}
use Rattle.column_pool.specs.Pools.{AllDiffer, ways_of}

-- what `==` tests
abbrev pub way_eq : Way → Way → Bool
way_eq v w = nat_eq v.bin_type w.bin_type && pointwise nat_eq v.arcs w.arcs

way-laws : IsEquivalence way_eq
way-laws = search (comparing, rules)

same-way : (v w : Way) → way_eq v w ≡ true → v ≡ w
same-way v w told =
    let parts = and_parts (nat_eq v.bin_type w.bin_type) (pointwise nat_eq v.arcs w.arcs) told in
    let types : v.bin_type ≡ w.bin_type = eqb-true v.bin_type w.bin_type parts.0 in
    let arcs : v.arcs ≡ w.arcs = same_text v.arcs w.arcs (sym parts.1) in
    λ i. record { bin_type = types i; arcs = arcs i }

decides-way : (v w : Way) → Decides (way_eq v w) (v ≡ w)
decides-way v w = (same-way v w, λ e. subst (λ (z : Way). way_eq v z ≡ true) e (way-laws.refl v))

module _ {S : Type 0} (m : IndexMap Way Column S) (now : List (Way × Column)) (seen : m.entries ≡ now) where
  -- the ways of a pool differ
  pub all-differ : IsDistinct way_eq (keys m) → AllDiffer now
  all-differ distinct = subst AllDiffer seen (AllPairs-from_IsDistinct {eq = way_eq} decides-way (ways_of m.entries) distinct)

  module _ (way : Way) where
    -- a way stands where it is found
    pub found-way : (n : ℕ) → Some n ≡ position (way_eq way) (keys m) → slice_get (ways_of now) n ≡ Some way
    found-way n found =
        let at = position-Some (way_eq way) (keys m) n way (sym found) in
        subst (λ (es : List (Way × Column)). slice_get (ways_of es) n ≡ Some way) seen (slice_get_read (keys m) (length (keys m)) n way refl at.0 (same-way way (get_or (keys m) n way) at.1))

    -- a way that a look-up finds is among those of the pool
    pub among : true ≡ is_some (get way_eq m way) → Contains (ways_of now) way
    among found = subst (λ (es : List (Way × Column)). Contains (ways_of es) way) seen (Contains-keys_from_lookup same-way way m.entries (sym found))

    -- a way that no look-up finds is not among them
    pub not-among : false ≡ is_some (get way_eq m way) → Contains (ways_of now) way → ⊥
    not-among missing there = false≢true (missing ∙ IsSome-lookup_from_Contains way-laws way m.entries (subst (λ (es : List (Way × Column)). Contains (ways_of es) way) (sym seen) there))

    -- a way that is not among them goes last
    pub way-added : (column : Column) (new : List (Way × Column)) → (Contains (ways_of now) way → ⊥) → new ≡ insert_entry way_eq m.entries way column → new ≡ now ++ (way, column) ∷ []
    way-added column new absent inserted =
        inserted ∙ insert_entry-new way_eq m way column (by (get way_eq m way) refl) ∙ ap (λ (es : List (Way × Column)). es ++ (way, column) ∷ []) seen
      where
        by : (o : Option Column) → get way_eq m way ≡ o → get way_eq m way ≡ None
        by None e = e
        by (Some v) e = absurd (absent (subst (λ (es : List (Way × Column)). Contains (ways_of es) way) seen (Contains-keys_from_lookup same-way way m.entries (ap is_some e))))

-- the last of a pool stands behind all others
pub last-way : (now new : List (Way × Column)) (way : Way) (column : Column) (n : ℕ) → new ≡ now ++ (way, column) ∷ [] → n ≡ length now → slice_get (ways_of new) n ≡ Some way
last-way now new way column n e at = subst (λ (es : List (Way × Column)). slice_get (ways_of es) n ≡ Some way) (sym e) (subst (λ (k : ℕ). slice_get (ways_of (now ++ (way, column) ∷ [])) k ≡ Some way) (sym at) (behind now))
  where
    behind : (es : List (Way × Column)) → slice_get (ways_of (es ++ (way, column) ∷ [])) (length es) ≡ Some way
    behind [] = refl
    behind (x ∷ xs) = behind xs
