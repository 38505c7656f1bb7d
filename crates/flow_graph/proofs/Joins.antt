-- The nodes that each arc of a graph joins.
use Rattle.std.proofs.Common.{◌≡◌, ◌⊎◌, ℕ, suc, ◌≤◌, ◌<◌, ◌==◌, ◌&&◌, List, length, refl, sym, subst, inl, inr, arith, All, get_or, Some}
use Rattle.std.specs.Prelude.{ℤ, ◌-ℤ◌}
use Rattle.std.proofs.lemmas.Option.{slice_get-get_or}
use Rattle.packing_laws.specs.Instances.{IsAmong}
use Rattle.flow_graph.specs.declared.parts.TypeArc.{TypeArc}
use Rattle.flow_graph.specs.declared.parts.ArcKind.{ArcKind}
use Rattle.flow_graph.specs.declared.parts.ArcKind.TheVariants.{Bin}
use Rattle.flow_graph.specs.Arcs.{TypeValue, IsFlowGraph, flow_type, kind_of, numbered, arc_at}
use Rattle.flow_graph.specs.Balance.{rise_of}
use Rattle.flow_graph.specs.Ends.{comes_in, goes_out}
use Rattle.flow_graph.specs.Laws.{IsKindAt, is_bin, is_arc}
use Rattle.flow_graph.proofs.ArcKinds.{among_list, arc_climbs, comes_kind, goes_kind, kind_at, kind_cases, number_of, type_is}

-- the arc leads from one node of a type to another: back to the source, or up
pub record Joins (g : List TypeValue) (kind : ArcKind) : Type 0 where
  pub t : ℕ
  pub tail : ℕ
  pub head : ℕ
  pub of_type : IsAmong t (length g)
  pub from : IsAmong tail (flow_type g t).nodes
  pub to : IsAmong head (flow_type g t).nodes
  pub way : ((kind ≡ Bin t) × (head ≡ 1)) ⊎ (tail < head)
  pub comes : (s v : ℕ) → comes_in s v kind ≡ ((t == s) && (head == v))
  pub goes : (s v : ℕ) → goes_out g s v kind ≡ ((t == s) && (tail == v))
  pub rise : (height : ℕ → ℕ → ℤ) → rise_of g height kind ≡ height t head -ℤ height t tail

bin_joins : (g : List TypeValue) → IsFlowGraph g → (t : ℕ) → IsAmong t (length g) → Joins g (Bin t)
bin_joins g is t among =
    let low = (type_is g is t among).source in
    record {
      t = t;
      tail = (flow_type g t).nodes;
      head = 1;
      of_type = among;
      from = (low, omega arith);
      to = (omega arith, low);
      way = inl (refl, refl);
      comes = λ s v. refl;
      goes = λ s v. refl;
      rise = λ height. refl;
    }

arc_joins : (g : List TypeValue) → IsFlowGraph g → (t : ℕ) → IsAmong t (length g) → (e : TypeArc) → (1 ≤ e.tail) × (e.tail < e.head) × (e.head ≤ (flow_type g t).nodes) → Joins g (kind_of t e)
arc_joins g is t among e climbs = record {
  t = t;
  tail = e.tail;
  head = e.head;
  of_type = among;
  from = (climbs.0, omega (arith, climbs.1, climbs.2));
  to = (omega (arith, climbs.0, climbs.1), climbs.2);
  way = inr climbs.1;
  comes = λ s v. comes_kind s v t e;
  goes = λ s v. goes_kind g s v t e;
  rise = λ height. kind_cases (λ kind. rise_of g height kind ≡ height t e.head -ℤ height t e.tail) t e refl refl;
}

kind_joins : (g : List TypeValue) → IsFlowGraph g → (a : ℕ) (kind : ArcKind) → IsKindAt g a kind → Joins g kind
kind_joins g is a kind (is_bin t among place own) = subst (Joins g) (sym own) (bin_joins g is t among)
kind_joins g is a kind (is_arc t among k e at place own) = subst (Joins g) (sym own) (arc_joins g is t among e (arc_climbs (flow_type g t) (type_is g is t among) e (among_list (flow_type g t).arcs k e at)))

pub joins : (g : List TypeValue) → IsFlowGraph g → (a : ℕ) (kind : ArcKind) → arc_at g a ≡ Some kind → Joins g kind
joins g is a kind at = kind_joins g is a kind (kind_at g a kind at)

pub all_join : (g : List TypeValue) → IsFlowGraph g → All (Joins g) (numbered g)
all_join g is k d within = joins g is (suc k) (get_or (numbered g) k d) (number_of g k (get_or (numbered g) k d) (slice_get-get_or (numbered g) k d within))
