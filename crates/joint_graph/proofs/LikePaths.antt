-- Paths of two graphs whose arcs go with each other weigh the same.
use Rattle.std.proofs.Common.{◌≡◌, ℕ, List, [], ◌∷◌, get_or, refl, sym, ap, ◌∙◌, subst, arith}
use Rattle.std.specs.Prelude.{Contains}
use Rattle.label_graph.specs.declared.parts.GraphArc.{GraphArc}
use Rattle.label_graph.specs.declared.parts.Piece.{Piece}
use Rattle.label_graph.specs.declared.parts.Mark.{Mark}
use Rattle.label_graph.specs.Graph.{IsPath, weight_in, mark_weight}
use Rattle.joint_graph.specs.Ways.{AreHeaviest}

-- from nodes that go with each other the same leads on to such nodes
abbrev pub ArcsGo : (Like : ℕ → ℕ → Type 0) → List GraphArc → List GraphArc → Type 0
ArcsGo Like arcs more = (e : GraphArc) (a : ℕ) → Contains arcs e → Like e.tail a → (x : GraphArc) × Contains more x × (x.tail ≡ a) × (x.mark ≡ e.mark) × Like e.head x.head

-- a path that weighs as much as another
record HasLike {N : ℕ} (pieces : List (Piece N)) (Like : ℕ → ℕ → Type 0) (more : List GraphArc) (a b : ℕ) (path : List GraphArc) : Type 0 where
  like : List GraphArc
  last : ℕ
  leads : IsPath more a last like
  goes : Like b last
  weighs : (d : ℕ) → weight_in pieces d like ≡ weight_in pieces d path

module _ {N : ℕ} (pieces : List (Piece N)) where
  path-like : (Like : ℕ → ℕ → Type 0) (arcs more : List GraphArc) → ArcsGo Like arcs more → (path : List GraphArc) (v b a : ℕ) → IsPath arcs v b path → Like v a → HasLike pieces Like more a b path
  path-like Like arcs more on [] v b a h goes = record { like = []; last = a; leads = refl; goes = subst (λ (w : ℕ). Like w a) h goes; weighs = λ d. refl }
  path-like Like arcs more on (e ∷ path) v b a h goes =
      let x = on e a h.0 (subst (λ (w : ℕ). Like w a) (sym h.1) goes) in
      let rest = path-like Like arcs more on path e.head b x.0.head h.2 x.4 in
      record {
        like = x.0 ∷ rest.like;
        last = rest.last;
        leads = (x.1, x.2, rest.leads);
        goes = rest.goes;
        weighs = λ d. omega (arith, rest.weighs d, ap (λ (m : Mark). get_or (mark_weight pieces m) d 0) x.3);
      }

  module _ (Like : ℕ → ℕ → Type 0) (arcs more : List GraphArc) (on : ArcsGo Like arcs more) (back : ArcsGo (λ (x v : ℕ). Like v x) more arcs) (one : (v x y : ℕ) → Like v x → Like v y → x ≡ y) (only : (v w x : ℕ) → Like v x → Like w x → v ≡ w) where
    pub heaviest-like : (v b a c : ℕ) (weights : List ℕ) → Like v a → Like b c → AreHeaviest pieces arcs v b weights → AreHeaviest pieces more a c weights
    heaviest-like v b a c weights start end are =
        record {
          sized = are.sized;
          each = λ d.
              let way = are.each d in
              let here = path-like Like arcs more on way.path v b a way.leads start in
              record {
                path = here.like;
                leads = subst (λ (w : ℕ). IsPath more a w here.like) (one b here.last c here.goes end) here.leads;
                weighs = here.weighs d ∙ way.weighs;
                most = λ other h.
                    let there = path-like (λ (x w : ℕ). Like w x) more arcs back other a c v h start in
                    let leads : IsPath arcs v b there.like = subst (λ (w : ℕ). IsPath arcs v w there.like) (only there.last b c there.goes end) there.leads in
                    omega (arith, way.most there.like leads, there.weighs d);
              };
        }
