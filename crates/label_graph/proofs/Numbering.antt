-- Labels in order by their numbers: each is found where it stands.
use Rattle.std.proofs.Common.{◌≡◌, ℕ, ◌+◌, ◌-◌, ◌<◌, ◌≤◌, Bool, true, false, nat_eq, if◌then◌else◌, List, [], ◌∷◌, ◌++◌, length, get_or, take, position, is_some, Some, None, refl, sym, ap, ◌∙◌, subst, ⊎_elim, arith}
use Rattle.std.specs.Prelude.{Contains, AllPairs}
use Rattle.std.specs.List.{list_any}
use Rattle.std.specs.Cmp.Lexicographic.{pointwise, same_text}
use Rattle.std.proofs.lemmas.Bool.{cases_lt, false≢true}
use Rattle.std.proofs.lemmas.Cmp.{nat_list_eq_equiv}
use Rattle.std.proofs.lemmas.List.{take_more, get_or-take, get_or_default, get_or_append_left, get_or_push, length-take}
use Rattle.std.proofs.lemmas.List.Quantifiers.{position-Some}
use Rattle.std.proofs.lemmas.Map.Views.{list_any-from_Contains, Contains-from_any}
use Rattle.weight_vec.specs.Weight.{Before}
use Rattle.indexmap.specs.IndexSet.{insert_key}
use Rattle.label_graph.specs.Graph.{label_of}
use Rattle.label_graph.specs.Images.{IsMergedInto}
use Rattle.label_graph.specs.inner.Merges.{AreNodes}
use Rattle.label_graph.proofs.Merging.{never_before_itself}

same-label : (xs ys : List ℕ) → pointwise nat_eq xs ys ≡ true → xs ≡ ys
same-label xs ys h = same_text xs ys (sym h)

-- a label in order does not stand before itself
not_in_front : (distinct : List (List ℕ)) (i : ℕ) (l : List ℕ) → AllPairs Before distinct → i < length distinct → get_or distinct i l ≡ l → Contains (take i distinct) l → ⊥
not_in_front distinct i l up lt here m =
    let front : m.0 < length (take i distinct) = m.1 in
    let low : m.0 < i = omega (arith, length-take i distinct) in
    let there : get_or distinct m.0 l ≡ l = sym (get_or-take i distinct m.0 l low) ∙ m.2 in
    let pair : Before (get_or distinct m.0 l) (get_or distinct i l) = up m.0 i l low lt in
    never_before_itself l (subst (λ (z : List ℕ). Before l z) here (subst (λ (z : List ℕ). Before z (get_or distinct i l)) there pair))

-- one more label
pub keys-more : (distinct : List (List ℕ)) (i : ℕ) (l : List ℕ) (keys new : List (List ℕ)) → AllPairs Before distinct → i < length distinct → l ≡ get_or distinct i l → keys ≡ take i distinct → new ≡ insert_key (pointwise nat_eq) keys l → new ≡ take (i + 1) distinct
keys-more distinct i l keys new up lt here front inserted = by (list_any (pointwise nat_eq l) (take i distinct)) refl
  where
    by : (b : Bool) → list_any (pointwise nat_eq l) (take i distinct) ≡ b → new ≡ take (i + 1) distinct
    by true e = absurd (not_in_front distinct i l up lt (sym here) (Contains-from_any same-label l (take i distinct) e))
    by false e =
        inserted ∙ ap (λ (ks : List (List ℕ)). insert_key (pointwise nat_eq) ks l) front ∙ ap (λ (b : Bool). if b then take i distinct else take i distinct ++ l ∷ []) e ∙ ap (λ (z : List ℕ). take i distinct ++ z ∷ []) here ∙ sym (take_more distinct i l lt)

pub never_missing : (keys : List (List ℕ)) (l : List ℕ) → Contains keys l → is_some {T = ℕ} None ≡ list_any (pointwise nat_eq l) keys → ⊥
never_missing keys l m missing = false≢true (missing ∙ list_any-from_Contains nat_list_eq_equiv l keys m)

-- the node of a label that was found
pub found-node : (keys : List (List ℕ)) (l : List ℕ) (k : ℕ) → Some k ≡ position (pointwise nat_eq l) keys → IsMergedInto (l ∷ []) keys 1 (k + 1)
found-node keys l k found =
    let at = position-Some (pointwise nat_eq l) keys k [] (sym found) in
    let same : k + 1 - 1 ≡ k = omega arith in
    record {
      first = omega arith;
      last = omega (arith, at.0);
      label = ap (λ (n : ℕ). get_or keys n []) same ∙ sym (same-label l (get_or keys k []) at.1);
    }

-- one more node
pub nodes-more : (labels keys : List (List ℕ)) (i : ℕ) (l : List ℕ) (nodes : List ℕ) (w : ℕ) → i < length labels → l ≡ get_or labels i l → length nodes ≡ i → ((k : ℕ) → k < i → IsMergedInto labels keys (k + 1) (get_or nodes k 0)) → IsMergedInto (l ∷ []) keys 1 w → (k : ℕ) → k < i + 1 → IsMergedInto labels keys (k + 1) (get_or (nodes ++ w ∷ []) k 0)
nodes-more labels keys i l nodes w lt here count each one k low =
    ⊎_elim
    (λ before. subst (λ (n : ℕ). IsMergedInto labels keys (k + 1) n) (sym (get_or_append_left nodes (w ∷ []) 0 k (omega arith))) (each k before))
    (λ last.
    let at : k ≡ i = omega arith in
    let same : i + 1 - 1 ≡ i = omega arith in
    let label : label_of labels (i + 1) ≡ l = ap (λ (n : ℕ). get_or labels n []) same ∙ get_or_default labels i [] l lt ∙ sym here in
    let merged : IsMergedInto labels keys (i + 1) w = record { first = one.first; last = one.last; label = one.label ∙ sym label } in
    let there : get_or (nodes ++ w ∷ []) k 0 ≡ w = get_or_push nodes w 0 k (omega arith) in
    subst (λ (n : ℕ). IsMergedInto labels keys (k + 1) n) (sym there) (subst (λ (n : ℕ). IsMergedInto labels keys (n + 1) w) (sym at) merged))
    (cases_lt k i)

pub are-nodes : (labels keys : List (List ℕ)) (i : ℕ) (nodes : List ℕ) → length labels ≤ i → i ≤ length labels → length nodes ≡ i → ((k : ℕ) → k < i → IsMergedInto labels keys (k + 1) (get_or nodes k 0)) → AreNodes labels keys nodes
are-nodes labels keys i nodes all within count each =
    record {
      count = omega arith;
      each = λ v low high.
          let same : v - 1 + 1 ≡ v = omega arith in
          subst (λ (n : ℕ). IsMergedInto labels keys n (get_or nodes (v - 1) 0)) same (each (v - 1) (omega arith));
    }
