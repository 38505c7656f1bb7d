-- The states that are reached, and how they are found.
use Rattle.std.proofs.Common.{◌≡◌, ℕ, zero, suc, ◌+◌, ◌<◌, ◌≤◌, ◌↔◌, Bool, true, false, if◌then◌else◌, Option, Some, None, List, [], ◌∷◌, ◌++◌, length, get_or, refl, sym, ap, ◌∙◌, subst, inl, inr, ⊎_elim, arith}
use Rattle.std.specs.Prelude.{Contains}
use Rattle.std.specs.List.{list_any}
use Rattle.std.proofs.lemmas.Bool.{cases_lt, cases_Bool}
use Rattle.std.proofs.lemmas.List.{get_or_append_left, get_or_default, length-append}
use Rattle.std.proofs.lemmas.List.Elements.{Contains-push, Contains-push_cases}
use Rattle.std.proofs.lemmas.List.Folds.{Any-from_list_any}
use Rattle.indexmap.specs.IndexSet.{insert_key}
use Rattle.weight_vec.specs.Weight.{AtMost}
use Rattle.weight_vec.proofs.Places.{get_or-zeros}
use Rattle.label_graph.specs.declared.parts.Piece.{Piece}
use Rattle.label_graph.specs.declared.parts.Mark.{Mark}
use Rattle.label_graph.specs.declared.parts.Mark.TheVariants.{Loss, Piece as Carries}
use Rattle.joint_graph.specs.declared.states.State.{State}
use Rattle.joint_graph.specs.Joints.{FitsSome, cap_at}
use Rattle.joint_graph.specs.JointLevels.{Step, ReachedIn, IsReached, source}
use Rattle.joint_graph.specs.inner.Pushes.{Follows, Adds, IsFound}

abbrev pub got : {X : Type 0} → X → Option X → X
got d None = d
got d (Some x) = x

module _ {X : Type 0} where
  pub adds-keeps : (old new : List X) (added : Option X) → Adds old new added → (x : X) → Contains old x → Contains new x
  adds-keeps old new added adds x m = (m.0, omega (arith, m.1, adds.grows), adds.kept m.0 x m.1 ∙ m.2)

  pub adds-none : (xs : List X) → Adds xs xs None
  adds-none xs = record { grows = omega arith; kept = λ i d lt. refl; here = λ x e. absurd (let bad : None ≡ Some x = e in cc); only = λ x m. inl m }

  -- a list that grows by an element that was not there
  pub adds-some : (eq : X → X → Bool) → ((x y : X) → eq x y ≡ true → x ≡ y) → (old new : List X) (x : X) → new ≡ insert_key eq old x → Adds old new (Some x)
  adds-some eq exact old new x inserted =
      ⊎_elim
      (λ t. subst (λ (zs : List X). Adds old zs (Some x)) (sym (stays t)) (there t))
      (λ f. subst (λ (zs : List X). Adds old zs (Some x)) (sym (pushed f)) pushed-one)
      (cases_Bool (list_any (eq x) old))
    where
      stays : list_any (eq x) old ≡ true → new ≡ old
      stays t = inserted ∙ ap (λ (b : Bool). if b then old else old ++ x ∷ []) t

      pushed : list_any (eq x) old ≡ false → new ≡ old ++ x ∷ []
      pushed f = inserted ∙ ap (λ (b : Bool). if b then old else old ++ x ∷ []) f

      there : list_any (eq x) old ≡ true → Adds old old (Some x)
      there t =
          let any = Any-from_list_any (eq x) old t in
          record {
            grows = omega arith;
            kept = λ i d lt. refl;
            here = λ y e.
                let same : any.1 ≡ y = sym (exact x any.1 any.4) ∙ ap (got x) e in
                subst (λ (z : X). Contains old z) same (any.0, any.2, any.3);
            only = λ y m. inl m;
          }

      pushed-one : Adds old (old ++ x ∷ []) (Some x)
      pushed-one =
          record {
            grows = omega (arith, length-append old (x ∷ []));
            kept = λ i d lt. get_or_append_left old (x ∷ []) d i lt;
            here = λ y e. subst (λ (z : X). Contains (old ++ x ∷ []) z) (ap (got x) e) (Contains-push old x);
            only = λ y m. ⊎_elim (λ was. inl was) (λ same. inr (ap Some same)) (Contains-push_cases old x y m);
          }

module _ {N : ℕ} (pieces : List (Piece N)) (caps : List (List ℕ)) where
  pub reached-step : (s t : State N) (m : Mark) → IsReached pieces caps s → Step pieces caps s m t → IsReached pieces caps t
  reached-step s t m h step = (suc h.0, (s, h.1, (m, step)))

  reached-piece-in : (n : ℕ) (s : State N) → ReachedIn pieces caps n s → 1 ≤ s.piece
  reached-piece-in zero s h = let at : s.piece ≡ 1 = ap (λ (z : State N). z.piece) h in omega arith
  reached-piece-in (suc n) s h = on h.2.0 h.2.1 (reached-piece-in n h.0 h.1)
    where
      on : (m : Mark) → Step pieces caps h.0 m s → 1 ≤ h.0.piece → 1 ≤ s.piece
      on (Carries p) step low = let at : s.piece ≡ h.0.piece = ap (λ (z : State N). z.piece) step.4 in omega arith
      on Loss step low = let at : s.piece ≡ h.0.piece + 1 = ap (λ (z : State N). z.piece) step.1 in omega arith

  pub reached-piece : (s : State N) → IsReached pieces caps s → 1 ≤ s.piece
  reached-piece s h = reached-piece-in h.0 s h.1

  pub zeros-fit : (t : ℕ) → AtMost (source N).used (cap_at caps t)
  zeros-fit t d = omega (arith, get_or-zeros N d)

  reached-fits-in : 1 ≤ length caps → (n : ℕ) (s : State N) → ReachedIn pieces caps n s → FitsSome caps s.used
  reached-fits-in some zero s h = subst (λ (z : State N). FitsSome caps z.used) (sym h) (1, (omega arith, some), zeros-fit 1)
  reached-fits-in some (suc n) s h = on h.2.0 h.2.1 (reached-fits-in some n h.0 h.1)
    where
      on : (m : Mark) → Step pieces caps h.0 m s → FitsSome caps h.0.used → FitsSome caps s.used
      on (Carries p) step fits = subst (λ (z : State N). FitsSome caps z.used) (sym step.4) step.3
      on Loss step fits = subst (λ (z : State N). FitsSome caps z.used) (sym step.1) fits

  pub reached-fits : 1 ≤ length caps → (s : State N) → IsReached pieces caps s → FitsSome caps s.used
  reached-fits some s h = reached-fits-in some h.0 s h.1

  -- a mark leads from a state to one state at most
  pub step-one : (m : Mark) (s t u : State N) → Step pieces caps s m t → Step pieces caps s m u → t ≡ u
  step-one (Carries p) s t u one two = one.4 ∙ sym two.4
  step-one Loss s t u one two = one.1 ∙ sym two.1

  -- what follows by a mark is where a step leads
  pub follows-step : (m : Mark) (s : State N) (o : Option (State N)) (t : State N) → Follows pieces caps s m o → o ≡ Some t → Step pieces caps s m t
  follows-step m s None t f e = absurd (let bad : None ≡ Some t = e in cc)
  follows-step m s (Some y) t f e = subst (λ (z : State N). Step pieces caps s m z) (ap (got y) e) f

  pub step-follows : (m : Mark) (s : State N) (o : Option (State N)) (t : State N) → Follows pieces caps s m o → Step pieces caps s m t → o ≡ Some t
  step-follows m s None t f step = absurd (f t step)
  step-follows m s (Some y) t f step = ap Some (step-one m s y t f step)

  -- where all states that are found are followed, they are all that are reached
  found-reached : (found : List (State N)) → IsFound pieces caps found (length found) → (n : ℕ) (s : State N) → ReachedIn pieces caps n s → Contains found s
  found-reached found is zero s h = subst (λ (z : State N). Contains found z) (sym h) is.first
  found-reached found is (suc n) s h =
      let at = found-reached found is n h.0 h.1 in
      is.followed at.0 h.0 s h.2.0 at.1 at.1 (subst (λ (z : State N). Step pieces caps z h.2.0 s) (sym at.2) h.2.1)

  pub found-all : (found : List (State N)) → IsFound pieces caps found (length found) → (s : State N) → Contains found s ↔ IsReached pieces caps s
  found-all found is s = (λ m. is.reached s m, λ h. found-reached found is h.0 s h.1)

  -- nothing is left to follow
  pub found-end : (found : List (State N)) (n : ℕ) → length found ≤ n → IsFound pieces caps found n → IsFound pieces caps found (length found)
  found-end found n all is = record { first = is.first; reached = is.reached; followed = λ i d t m low high step. is.followed i d t m (omega arith) high step }

  -- the source alone
  pub found-first : (old found : List (State N)) → length old ≡ 0 → Adds old found (Some (source N)) → IsFound pieces caps found 0
  found-first old found none adds =
      record {
        first = adds.here (source N) refl;
        reached = λ s m. ⊎_elim (λ nothing. absurd (let lt : nothing.0 < length old = nothing.1 in omega arith)) (λ e. (0, sym (ap (got s) e))) (adds.only s m);
        followed = λ i d t m low high step. absurd (omega (arith, low));
      }

  -- what follows one more state
  pub found-more : (old mid new : List (State N)) (i : ℕ) (s : State N) (taken skipped : Option (State N)) → i < length old → s ≡ get_or old i s → IsFound pieces caps old i → Follows pieces caps s (Carries s.piece) taken → Follows pieces caps s Loss skipped → Adds old mid taken → Adds mid new skipped → IsFound pieces caps new (suc i)
  found-more old mid new i s taken skipped lt at is take skip one two =
      record {
        first = all (source N) is.first;
        reached = λ x m. ⊎_elim (λ was. ⊎_elim (λ first. is.reached x first) (λ e. follow (Carries s.piece) taken x take e) (one.only x was)) (λ e. follow Loss skipped x skip e) (two.only x m);
        followed = λ j d t m low high step. ⊎_elim
            (λ early. all t (is.followed j d t m early (omega arith) (subst (λ (z : State N). Step pieces caps z m t) (same j d (omega arith)) step)))
            (λ last.
            let index : j ≡ i = omega arith in
            let here : get_or new j d ≡ s = same j d (omega arith) ∙ ap (λ (k : ℕ). get_or old k d) index ∙ get_or_default old i d s lt ∙ sym at in
            next m t (subst (λ (z : State N). Step pieces caps z m t) here step))
            (cases_lt j i);
      }
    where
      all : (x : State N) → Contains old x → Contains new x
      all x m = adds-keeps mid new skipped two x (adds-keeps old mid taken one x m)

      same : (j : ℕ) (d : State N) → j < length old → get_or new j d ≡ get_or old j d
      same j d h = two.kept j d (omega (arith, one.grows)) ∙ one.kept j d h

      reached-here : IsReached pieces caps s
      reached-here = is.reached s (i, lt, sym at)

      follow : (m : Mark) (o : Option (State N)) (x : State N) → Follows pieces caps s m o → o ≡ Some x → IsReached pieces caps x
      follow m o x f e = reached-step s x m reached-here (follows-step m s o x f e)

      next : (m : Mark) (t : State N) → Step pieces caps s m t → Contains new t
      next (Carries p) t step = adds-keeps mid new skipped two t (one.here t (step-follows (Carries s.piece) s taken t take (refl, step.1, step.2, step.3, step.4)))
      next Loss t step = two.here t (step-follows Loss s skipped t skip step)
