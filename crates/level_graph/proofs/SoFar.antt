-- The states of the first pieces, and what enters the next one.
use Rattle.std.proofs.Common.{◌≡◌, ℕ, suc, ◌+◌, ◌-◌, ◌<◌, ◌≤◌, ◌↔◌, List, [], ◌∷◌, ◌++◌, length, get_or, replicate, refl, sym, ◌∙◌, subst, ⊎_elim, arith}
use Rattle.std.specs.Prelude.{Contains, AllPairs}
use Rattle.std.proofs.lemmas.Bool.{cases_lt}
use Rattle.std.proofs.lemmas.List.{length-append, get_or_append_left, get_or-append_right}
use Rattle.std.proofs.lemmas.List.Elements.{Contains-append_left, Contains-append_right, Contains-append_cases, Contains-push, Contains-push_cases, Contains-get_or}
use Rattle.std.proofs.lemmas.List.Quantifiers.{all_pairs_push}
use Rattle.weight_vec.specs.Weight.{Before}
use Rattle.label_graph.specs.declared.parts.Piece.{Piece}
use Rattle.level_graph.specs.declared.states.State.{State}
use Rattle.level_graph.specs.Levels.{StateBefore, IsReached, target}
use Rattle.level_graph.specs.inner.Layers.{IsLayer, AreWeights, AreStates}
use Rattle.level_graph.proofs.Members.{contains_cons, contains_here, contains_nothing}
use Rattle.level_graph.proofs.StateOrder.{before-piece}
use Rattle.level_graph.proofs.Reached.{Enters, reached-low, reached-end, target_reached, target-piece, layer-here, layer-sound, layer-complete}

module _ {X : Type 0} (R : X → X → Type 0) where
  -- two lists in order, the one before the other
  pub all_pairs-append : (xs ys : List X) → AllPairs R xs → AllPairs R ys → ((x y : X) → Contains xs x → Contains ys y → R x y) → AllPairs R (xs ++ ys)
  all_pairs-append xs ys first second across i j d lt in_range =
      let whole : length (xs ++ ys) ≡ length xs + length ys = length-append xs ys in
      ⊎_elim
      (λ low. let i_low : i < length xs = omega arith in
      rw (get_or_append_left xs ys d i i_low, get_or_append_left xs ys d j low) (first i j d lt low))
      (λ high. ⊎_elim
      (λ i_low. let there : j - length xs < length ys = omega arith in
      rw (get_or_append_left xs ys d i i_low, get_or-append_right xs ys (length xs) j d refl high)
      (across (get_or xs i d) (get_or ys (j - length xs) d) (Contains-get_or xs i d i_low) (Contains-get_or ys (j - length xs) d there)))
      (λ i_high. let there : j - length xs < length ys = omega arith in
      let below : i - length xs < j - length xs = omega arith in
      rw (get_or-append_right xs ys (length xs) i d refl i_high, get_or-append_right xs ys (length xs) j d refl high)
      (second (i - length xs) (j - length xs) d below there))
      (cases_lt i (length xs)))
      (cases_lt j (length xs))

-- the states at the first k pieces, and the weights that enter the next one
pub record SoFar {N : ℕ} (pieces : List (Piece N)) (room : List ℕ) (k : ℕ) (states : List (State N)) (entering : List (List ℕ)) : Type 0 where
  pub ordered : AllPairs StateBefore states
  pub exact : (s : State N) → Contains states s ↔ (IsReached pieces room s × (s.piece ≤ k))
  pub entering_ordered : AllPairs Before entering
  pub entering_exact : (x : List ℕ) → Contains entering x ↔ Enters pieces room k x

module _ {N : ℕ} (pieces : List (Piece N)) (room : List ℕ) where
  pub so_far-start : (zeros : List ℕ) → zeros ≡ replicate N 0 → SoFar pieces room 0 [] (zeros ∷ [])
  so_far-start zeros e =
      record {
        ordered = λ i j d lt in_range. absurd (omega arith);
        exact = λ s. (λ m. absurd (contains_nothing s m), λ w. absurd (omega (arith, w.1, reached-low pieces room s w.0)));
        entering_ordered = λ i j d lt in_range. absurd (omega arith);
        entering_exact = λ x. (
          λ m. ⊎_elim (λ same. sym same ∙ e) (λ later. absurd (contains_nothing x later)) (contains_cons zeros [] x m),
          λ same. subst (λ (y : List ℕ). Contains (zeros ∷ []) y) (e ∙ sym same) (contains_here zeros []),
        );
      }

  pub so_far-more : (k : ℕ) (piece : Piece N) (states layer : List (State N)) (entering weights : List (List ℕ)) → k < length pieces → get_or pieces k piece ≡ piece → SoFar pieces room k states entering → IsLayer (k + 1) piece room entering layer → AreWeights layer weights → SoFar pieces room (k + 1) (states ++ layer) weights
  so_far-more k piece states layer entering weights lt at old is kept =
      let here : (s : State N) → Contains layer s → s.piece ≡ k + 1 = layer-here pieces room k piece lt at entering old.entering_exact layer is in
      let sound : (s : State N) → Contains layer s → IsReached pieces room s = layer-sound pieces room k piece lt at entering old.entering_exact layer is in
      let complete : (s : State N) → IsReached pieces room s → s.piece ≡ k + 1 → Contains layer s = layer-complete pieces room k piece lt at entering old.entering_exact layer is in
      let one : k + 1 ≡ suc k = omega arith in
      record {
        ordered = all_pairs-append StateBefore states layer old.ordered is.ordered (λ s t m n. before-piece s t (omega (arith, ((old.exact s).0 m).1, here t n)));
        exact = λ s. (
          λ m. ⊎_elim
              (λ early. let w = (old.exact s).0 early in (w.0, omega (arith, w.1)))
              (λ late. (sound s late, omega (arith, here s late)))
              (Contains-append_cases states layer s m),
          λ w. ⊎_elim
              (λ early. Contains-append_left states layer s ((old.exact s).1 (w.0, omega arith)))
              (λ late. Contains-append_right states layer s (complete s w.0 (omega (arith, w.1))))
              (cases_lt s.piece (k + 1)),
        );
        entering_ordered = kept.ordered;
        entering_exact = λ x. subst (λ (n : ℕ). Contains weights x ↔ Enters pieces room n x) (sym one) (
          λ m. let w = (kept.exact x).0 m in (w.0, sound w.0 w.1, here w.0 w.1 ∙ one, w.2),
          λ w. (kept.exact x).1 (w.0, complete w.0 w.1 (w.2 ∙ sym one), w.3),
        );
      }

  pub so_far-end : (states : List (State N)) (entering : List (List ℕ)) → SoFar pieces room (length pieces) states entering → AreStates pieces room (states ++ target pieces room ∷ [])
  so_far-end states entering old =
      record {
        ordered = all_pairs_push StateBefore states (target pieces room) old.ordered (λ k d lt.
            let w = (old.exact (get_or states k d)).0 (Contains-get_or states k d lt) in
            let low = reached-low pieces room (get_or states k d) w.0 in
            before-piece (get_or states k d) (target pieces room) (omega (arith, w.1, low, target-piece pieces room (omega (arith, w.1, low)))));
        reached = λ s. (
          λ m. ⊎_elim (λ early. ((old.exact s).0 early).0) (λ last. subst (λ (z : State N). IsReached pieces room z) last (target_reached pieces room)) (Contains-push_cases states (target pieces room) s m),
          λ h. ⊎_elim
              (λ le. Contains-append_left states (target pieces room ∷ []) s ((old.exact s).1 (h, le)))
              (λ end. subst (λ (z : State N). Contains (states ++ target pieces room ∷ []) z) (sym end) (Contains-push states (target pieces room)))
              (reached-end pieces room s h),
        );
      }
