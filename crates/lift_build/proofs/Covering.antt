-- What a search covers: it stays covered as more is found, and passes between states that stand for one another.
use Rattle.std.proofs.Common.{◌≡◌, ℕ, zero, suc, ◌<◌, List, length, refl, sym, ◌∙◌, subst, inl, inr, ⊎_elim, arith}
use Rattle.std.specs.Prelude.{Contains}
use Rattle.label_graph.specs.declared.parts.GraphArc.{GraphArc}
use Rattle.label_graph.specs.declared.parts.Piece.{Piece}
use Rattle.label_graph.specs.declared.parts.Mark.{Mark}
use Rattle.label_graph.specs.declared.parts.Mark.TheVariants.{Loss, Piece as Carries}
use Rattle.level_graph.specs.declared.states.State.{State}
use Rattle.level_graph.specs.Levels.{Step, ReachedIn, IsReached, source}
use Rattle.lift_build.specs.inner.Numbers.{IsNumber, Grows}
use Rattle.lift_build.specs.inner.Rooms.{room_left, IsUnder}
use Rattle.lift_build.specs.inner.Searches.{LeadsIn, IsImageOf, HasImage, IsShown, Covers, IsDone}
use Rattle.lift_build.proofs.Lifts.{under-room, under-next}

module _ {N : ℕ} (pieces : List (Piece N)) (cap : List ℕ) (sized : length cap ≡ N) where
  pub leads-next : (n : ℕ) (s t u : State N) (m : Mark) → LeadsIn pieces cap n s t → Step pieces cap t m u → LeadsIn pieces cap (suc n) s u
  leads-next zero s t u m leads step = (u, (m, subst (λ (z : State N). Step pieces cap z m u) (sym leads) step), refl)
  leads-next (suc n) s t u m leads step = (leads.0, leads.1, leads-next n leads.0 t u m leads.2 step)

  -- steps from a state are steps from the one that stands for it
  leads-under : (n : ℕ) (r s t : State N) → IsUnder pieces cap r s → LeadsIn pieces cap n r t → (u : State N) × LeadsIn pieces cap n s u × IsUnder pieces cap t u
  leads-under zero r s t is leads = (s, refl, subst (λ (z : State N). IsUnder pieces cap z s) leads is)
  leads-under (suc n) r s t is leads =
      let next = under-next pieces cap sized r s leads.0 leads.1.0 is leads.1.1 in
      let rest = leads-under n leads.0 next.0 t next.2 leads.2 in
      (rest.0, (next.0, (leads.1.0, next.1), rest.1), rest.2)

  module _ (labels : List (List ℕ)) (arcs : List GraphArc) where
    image-under : (x : GraphArc) (s t u v : State N) (m : Mark) → room_left pieces cap s ≡ room_left pieces cap u → room_left pieces cap t ≡ room_left pieces cap v → HasImage pieces cap labels arcs s m t → HasImage pieces cap labels arcs u m v
    image-under x s t u v m here there image =
        ⊎_elim
        (λ w. inl (w.0, sym here ∙ w.1 ∙ there))
        (λ w. inr (
          w.0,
          w.1,
          record {
            tail = subst (λ (l : List ℕ). IsNumber labels w.0.tail l) here w.2.tail;
            head = subst (λ (l : List ℕ). IsNumber labels w.0.head l) there w.2.head;
            mark = w.2.mark;
            kept = λ loss same. w.2.kept loss (here ∙ same ∙ sym there);
          },
        ))
        image

    shown-under : (r s : State N) → IsUnder pieces cap r s → IsShown pieces cap labels arcs s → IsShown pieces cap labels arcs r
    shown-under r s is shown =
        let same = sym (under-room pieces cap sized r s is) in
        record {
          number = shown.number;
          label = subst (λ (l : List ℕ). IsNumber labels shown.number l) same shown.label;
          steps = λ m t step.
              let next = under-next pieces cap sized r s t m is step in
              let none : GraphArc = record { tail = 0; head = 0; mark = Loss } in
              image-under none s next.0 r t m same (sym (under-room pieces cap sized t next.0 next.2)) (shown.steps m next.0 next.1);
        }

    pub covers-under : (r s : State N) → IsUnder pieces cap r s → Covers pieces cap labels arcs s → Covers pieces cap labels arcs r
    covers-under r s is covers n t leads =
        let other = leads-under n r s t is leads in
        shown-under t other.0 other.2 (covers n other.0 other.1)

    pub done-under : (r s : State N) (number : ℕ) → IsUnder pieces cap r s → IsDone pieces cap labels arcs s number → IsDone pieces cap labels arcs r number
    done-under r s number is done = record {
      label = subst (λ (l : List ℕ). IsNumber labels number l) (sym (under-room pieces cap sized r s is)) done.label;
      covers = covers-under r s is done.covers;
    }

    pub covers-more : (s : State N) → IsShown pieces cap labels arcs s → ((m : Mark) (t : State N) → Step pieces cap s m t → Covers pieces cap labels arcs t) → Covers pieces cap labels arcs s
    covers-more s shown rest zero t leads = subst (λ (z : State N). IsShown pieces cap labels arcs z) leads shown
    covers-more s shown rest (suc n) t leads = rest leads.1.0 leads.0 leads.1.1 n t leads.2

    pub covers-next : (s t : State N) (m : Mark) → Step pieces cap s m t → Covers pieces cap labels arcs s → Covers pieces cap labels arcs t
    covers-next s t m step covers n u leads = covers (suc n) u (t, (m, step), leads)

    covers-in : (n : ℕ) (s : State N) → Covers pieces cap labels arcs (source N) → ReachedIn pieces cap n s → Covers pieces cap labels arcs s
    covers-in zero s covers h = subst (λ (z : State N). Covers pieces cap labels arcs z) (sym h) covers
    covers-in (suc n) s covers h = covers-next h.0 s h.2.0 h.2.1 (covers-in n h.0 covers h.1)

    -- where the source is covered, all reached states are shown
    pub shown-reached : (s : State N) → Covers pieces cap labels arcs (source N) → IsReached pieces cap s → IsShown pieces cap labels arcs s
    shown-reached s covers h = covers-in h.0 s covers h.1 0 s refl

    -- no step leads on from behind the last piece
    pub past-shown : (s : State N) (number : ℕ) → length pieces < s.piece → IsNumber labels number (room_left pieces cap s) → IsDone pieces cap labels arcs s number
    past-shown s number past label =
        let never : (m : Mark) (t : State N) → Step pieces cap s m t → ⊥ = λ m t step. stuck m t step in
        record {
          label = label;
          covers = covers-more s (record { number = number; label = label; steps = λ m t step. absurd (never m t step) }) (λ m t step. absurd (never m t step));
        }
      where
        stuck : (m : Mark) (t : State N) → Step pieces cap s m t → ⊥
        stuck Loss t step = ⊎_elim (λ w. omega (arith, w.0)) (λ w. omega (arith, w.0)) step
        stuck (Carries p) t step = omega (arith, step.1)

  module _ (labels more_labels : List (List ℕ)) (arcs more_arcs : List GraphArc) (grows : Grows labels more_labels) (stay : (x : GraphArc) → Contains arcs x → Contains more_arcs x) where
    pub image-grows : (x : GraphArc) (s t : State N) (m : Mark) → IsImageOf pieces cap labels x s m t → IsImageOf pieces cap more_labels x s m t
    image-grows x s t m is = record { tail = grows x.tail (room_left pieces cap s) is.tail; head = grows x.head (room_left pieces cap t) is.head; mark = is.mark; kept = is.kept }

    shown-grows : (s : State N) → IsShown pieces cap labels arcs s → IsShown pieces cap more_labels more_arcs s
    shown-grows s is = record {
      number = is.number;
      label = grows is.number (room_left pieces cap s) is.label;
      steps = λ m t step. ⊎_elim (λ w. inl w) (λ w. inr (w.0, stay w.0 w.1, image-grows w.0 s t m w.2)) (is.steps m t step);
    }

    pub covers-grows : (s : State N) → Covers pieces cap labels arcs s → Covers pieces cap more_labels more_arcs s
    covers-grows s covers n t leads = shown-grows t (covers n t leads)

    pub done-grows : (s : State N) (number : ℕ) → IsDone pieces cap labels arcs s number → IsDone pieces cap more_labels more_arcs s number
    done-grows s number is = record { label = grows number (room_left pieces cap s) is.label; covers = covers-grows s is.covers }
