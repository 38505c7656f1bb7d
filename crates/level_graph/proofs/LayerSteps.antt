-- How the states at a piece grow: each state in turn is followed by what one more copy makes of it.
use Rattle.std.proofs.Common.{◌≡◌, ℕ, suc, ◌+◌, ◌<◌, List, [], ◌∷◌, ◌++◌, length, get_or, take, refl, sym, ap, ◌∙◌, subst, ⊎_elim, Option, Some, None, arith, append_assoc, append-nil}
use Rattle.std.specs.Prelude.{Contains, All, AllPairs}
use Rattle.std.specs.List.{filter_map, cons_option}
use Rattle.std.proofs.lemmas.List.{take_more, take-append-le, get_or_default, get_or-map}
use Rattle.std.proofs.Math.Seq.{take-length}
use Rattle.std.proofs.lemmas.List.Elements.{All-push, Contains-get_or, Contains-append_cases, filter_map-append}
use Rattle.std.proofs.lemmas.List.Quantifiers.{all_pairs_push}
use Rattle.weight_vec.specs.Weight.{Before}
use Rattle.weight_vec.proofs.Places.{length-plus}
use Rattle.label_graph.specs.declared.parts.Piece.{Piece}
use Rattle.level_graph.specs.declared.states.State.{State}
use Rattle.level_graph.specs.Levels.{StateBefore}
use Rattle.level_graph.specs.inner.Layers.{taken, entered, IsLayer}
use Rattle.level_graph.proofs.Members.{contains_take, from_filter_map, from_map}
use Rattle.level_graph.proofs.StateOrder.{before-copies, before-used}
use Rattle.level_graph.proofs.Takes.{taken-is, taken-keeps_order}

-- of this list the first i states have been followed
pub record Growing {N : ℕ} (number : ℕ) (piece : Piece N) (room : List ℕ) (entering : List (List ℕ)) (layer : List (State N)) (i : ℕ) : Type 0 where
  pub ordered : AllPairs StateBefore layer
  pub sized : All (λ (s : State N). length s.used ≡ N) layer
  pub here : All (λ (s : State N). s.piece ≡ number) layer
  pub whole : layer ≡ entered number entering ++ filter_map (taken piece room) (take i layer)

pub entries : (N number : ℕ) (entering : List (List ℕ)) → length (entered {N = N} number entering) ≡ length entering
entries N number [] = refl
entries N number (x ∷ entering) = ap suc (entries N number entering)

module _ {N : ℕ} (number : ℕ) where
  abbrev pub entry : List ℕ → State N
  entry x = record { piece = number; copies = 0; used = x }

  pub entered-ordered : (entering : List (List ℕ)) → AllPairs Before entering → AllPairs StateBefore (entered {N = N} number entering)
  entered-ordered entering up i j d lt in_range =
      let low : i < length entering = omega (arith, entries N number entering) in
      let high : j < length entering = omega (arith, entries N number entering) in
      rw (get_or-map entry entering i [] d low, get_or-map entry entering j [] d high)
      (before-used (entry (get_or entering i [])) (entry (get_or entering j [])) refl refl (up i j [] lt high))

module _ {N : ℕ} (number : ℕ) (piece : Piece N) (room : List ℕ) (entering : List (List ℕ)) (weight_sized : length piece.weight ≡ N) where
  -- the rest of the list of followers
  followers : (layer : List (State N)) (i : ℕ) (s : State N) → i < length layer → s ≡ get_or layer i s → filter_map (taken piece room) (take (i + 1) layer) ≡ filter_map (taken piece room) (take i layer) ++ cons_option (taken piece room s) []
  followers layer i s lt at =
      ap (filter_map (taken piece room)) (take_more layer i s lt)
      ∙ filter_map-append (taken piece room) (take i layer) (get_or layer i s ∷ [])
      ∙ ap (λ (z : State N). filter_map (taken piece room) (take i layer) ++ cons_option (taken piece room z) []) (sym at)

  pub growing_stay : (layer : List (State N)) (i : ℕ) (s : State N) → Growing number piece room entering layer i → i < length layer → s ≡ get_or layer i s → taken piece room s ≡ None → Growing number piece room entering layer (i + 1)
  growing_stay layer i s old lt at stops =
      record {
        ordered = old.ordered;
        sized = old.sized;
        here = old.here;
        whole = rw (followers layer i s lt at, stops, append-nil) old.whole;
      }

  -- each state that is there comes before what follows the next one
  comes_before : (layer : List (State N)) (i : ℕ) (s next : State N) → Growing number piece room entering layer i → i < length layer → s ≡ get_or layer i s → taken piece room s ≡ Some next → (k : ℕ) (d : State N) → k < length layer → StateBefore (get_or layer k d) next
  comes_before layer i s next old lt at gives k d in_range =
      let v : State N = get_or layer k d in
      let next_is = taken-is piece room s next gives in
      let s_here : s.piece ≡ number = subst (λ (z : State N). z.piece ≡ number) (sym at) (old.here i s lt) in
      let s_sized : length s.used ≡ N = subst (λ (z : State N). length z.used ≡ N) (sym at) (old.sized i s lt) in
      let next_here : next.piece ≡ number = ap (λ (z : State N). z.piece) next_is.2 ∙ s_here in
      let next_copies : next.copies ≡ s.copies + 1 = ap (λ (z : State N). z.copies) next_is.2 in
      let v_here : v.piece ≡ number = old.here k d in_range in
      let member : Contains (entered number entering ++ filter_map (taken piece room) (take i layer)) v = subst (λ (zs : List (State N)). Contains zs v) old.whole (Contains-get_or layer k d in_range) in
      ⊎_elim
      (λ m. let from = from_map (entry number) entering v m in
      let none : 0 ≡ v.copies = ap (λ (z : State N). z.copies) from.2 in
      before-copies v next (v_here ∙ sym next_here) (omega arith))
      (λ m. let from = from_filter_map (taken piece room) (take i layer) v m in
      let r : State N = from.0 in
      let place = contains_take i layer r from.1 in
      let r_here : r.piece ≡ number = subst (λ (z : State N). z.piece ≡ number) place.3 (old.here place.0 r place.2) in
      let r_sized : length r.used ≡ N = subst (λ (z : State N). length z.used ≡ N) place.3 (old.sized place.0 r place.2) in
      let up : StateBefore (get_or layer place.0 r) (get_or layer i r) = old.ordered place.0 i r place.1 lt in
      let up_s : StateBefore r (get_or layer i r) = subst (λ (z : State N). StateBefore z (get_or layer i r)) place.3 up in
      let before : StateBefore r s = subst (λ (z : State N). StateBefore r z) (get_or_default layer i r s lt ∙ sym at) up_s in
      taken-keeps_order piece room r s v next (r_here ∙ sym s_here) r_sized s_sized weight_sized from.2 gives before)
      (Contains-append_cases (entered number entering) (filter_map (taken piece room) (take i layer)) v member)

  pub growing_push : (layer : List (State N)) (i : ℕ) (s next : State N) → Growing number piece room entering layer i → i < length layer → s ≡ get_or layer i s → taken piece room s ≡ Some next → Growing number piece room entering (layer ++ next ∷ []) (i + 1)
  growing_push layer i s next old lt at gives =
      let next_is = taken-is piece room s next gives in
      let s_here : s.piece ≡ number = subst (λ (z : State N). z.piece ≡ number) (sym at) (old.here i s lt) in
      let s_sized : length s.used ≡ N = subst (λ (z : State N). length z.used ≡ N) (sym at) (old.sized i s lt) in
      let next_here : next.piece ≡ number = ap (λ (z : State N). z.piece) next_is.2 ∙ s_here in
      let next_sized : length next.used ≡ N = ap (λ (z : State N). length z.used) next_is.2 ∙ length-plus s.used piece.weight (s_sized ∙ sym weight_sized) ∙ s_sized in
      let same : take (i + 1) (layer ++ next ∷ []) ≡ take (i + 1) layer = take-append-le (i + 1) layer (next ∷ []) (omega arith) in
      record {
        ordered = all_pairs_push StateBefore layer next old.ordered (comes_before layer i s next old lt at gives);
        sized = All-push (λ (s : State N). length s.used ≡ N) layer next old.sized next_sized;
        here = All-push (λ (s : State N). s.piece ≡ number) layer next old.here next_here;
        whole =
            ap (λ (zs : List (State N)). zs ++ next ∷ []) old.whole
            ∙ append_assoc (entered number entering) (filter_map (taken piece room) (take i layer)) (next ∷ [])
            ∙ ap (λ (o : Option (State N)). entered number entering ++ (filter_map (taken piece room) (take i layer) ++ cons_option o [])) (sym gives)
            ∙ ap (λ (zs : List (State N)). entered number entering ++ zs) (sym (followers layer i s lt at))
            ∙ ap (λ (zs : List (State N)). entered number entering ++ filter_map (taken piece room) zs) (sym same);
      }

  -- in the end the list holds what follows each of its own states
  pub growing_done : (layer : List (State N)) (i : ℕ) → i ≡ length layer → Growing number piece room entering layer i → IsLayer number piece room entering layer
  growing_done layer i all g =
      record {
        ordered = g.ordered;
        sized = g.sized;
        here = g.here;
        whole = g.whole ∙ ap (λ (zs : List (State N)). entered number entering ++ filter_map (taken piece room) zs) (ap (λ (n : ℕ). take n layer) all ∙ take-length layer);
      }
