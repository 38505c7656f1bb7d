-- The paths of a numbered type are those of its graph, with the same contents.
use Rattle.std.proofs.Common.{◌≡◌, ℕ, ◌≤◌, List, [], ◌∷◌, map, ◌==◌, ap, sym, refl, ◌∙◌, subst, arith, get_or}
use Rattle.std.specs.Prelude.{All}
use Rattle.std.proofs.lemmas.Bool.{cond-false, ne_eqb}
use Rattle.std.proofs.lemmas.List.Elements.{All-contains, All-head, All-tail, Contains-get_or}
use Rattle.packing_laws.specs.Instances.{InstanceValue}
use Rattle.packing_laws.specs.Packings.{Content, Exists}
use Rattle.label_graph.specs.declared.parts.GraphArc.{GraphArc}
use Rattle.label_graph.specs.declared.parts.Mark.{Mark}
use Rattle.label_graph.specs.declared.parts.Mark.TheVariants.{Loss, Piece as Carries}
use Rattle.label_graph.specs.declared.parts.Piece.{Piece}
use Rattle.label_graph.specs.Graph.{IsKnown, IsPath}
use Rattle.flow_graph.specs.declared.parts.TypeArc.{TypeArc}
use Rattle.flow_graph.specs.Faithful.{IsPath as IsArcPath, unit_of, content_of}
use Rattle.arc_compile.specs.Exact.{marked_item, with_mark, content_along}
use Rattle.arc_compile.specs.Compiled.{type_arc, AreNumbered}
use Rattle.arc_compile.proofs.HeldPieces.{IsFormPiece}
use Rattle.arc_compile.proofs.PathContents.{unit_at, item-at, piece-known, unit-exists, path-known}

module _ {N : ℕ} (I : InstanceValue) (pieces : List (Piece N)) (each : All (IsFormPiece I) pieces) where
  -- a mark with an item carries a unit that exists
  pub marked-exists : (e : GraphArc) (m : Mark) → IsKnown pieces m → 1 ≤ marked_item pieces m → Exists I (unit_of (type_arc pieces (record { tail = e.tail; head = e.head; mark = m })))
  marked-exists e Loss h some = absurd (omega arith)
  marked-exists e (Carries p) h some = unit-exists I pieces each p h

  -- an arc adds what its mark carries
  pub arc-content : (e : GraphArc) (m : Mark) (path : List TypeArc) (c : Content) → IsKnown pieces m → content_of path ≡ c → content_of (type_arc pieces (record { tail = e.tail; head = e.head; mark = m }) ∷ path) ≡ with_mark pieces m c
  arc-content e Loss path c h same = same
  arc-content e (Carries p) path c h same =
      let is = piece-known I pieces each p h in
      let item = item-at pieces p h in
      cond-false (marked_item pieces (Carries p) == 0) (content_of path) (unit_at pieces p ∷ content_of path) (ne_eqb (marked_item pieces (Carries p)) 0 (λ none. omega (arith, is.item_is.0)))
      ∙ ap (λ (rest : Content). unit_at pieces p ∷ rest) same

  pub arcs-content : (path : List GraphArc) → All (λ e. IsKnown pieces e.mark) path → content_of (map (type_arc pieces) path) ≡ content_along pieces path
  arcs-content [] known = refl
  arcs-content (e ∷ path) known =
      arc-content e e.mark (map (type_arc pieces) path) (content_along pieces path)
      (All-head (λ (x : GraphArc). IsKnown pieces x.mark) e path known)
      (arcs-content path (All-tail (λ (x : GraphArc). IsKnown pieces x.mark) e path known))

-- a path of the graph with the content of a path of the type
pub record HasGraphPath {N : ℕ} (pieces : List (Piece N)) (arcs : List GraphArc) (a b : ℕ) (path : List TypeArc) : Type 0 where
  pub like : List GraphArc
  pub leads : IsPath arcs a b like
  pub same : path ≡ map (type_arc pieces) like

module _ {N : ℕ} (I : InstanceValue) (pieces : List (Piece N)) (arcs : List GraphArc) (xs : List TypeArc) (numbered : AreNumbered pieces arcs xs) (each : All (IsFormPiece I) pieces) (known : All (λ e. IsKnown pieces e.mark) arcs) where
  -- each arc that carries something names a form that exists
  pub arcs_exist : All (λ e. 1 ≤ e.item → Exists I (unit_of e)) xs
  arcs_exist k d lt some =
      let a = get_or xs k d in
      let from = (numbered.same a).0 (Contains-get_or xs k d lt) in
      let e : GraphArc = from.0 in
      let same : type_arc pieces e ≡ a = from.2 in
      let mark : IsKnown pieces e.mark = All-contains (λ (y : GraphArc). IsKnown pieces y.mark) arcs e known from.1 in
      let item : marked_item pieces e.mark ≡ a.item = ap (λ (y : TypeArc). y.item) same in
      subst (λ (y : TypeArc). Exists I (unit_of y)) same (marked-exists I pieces each e e.mark mark (omega arith))

  -- a path of the type is one of the graph
  pub graph_path : (path : List TypeArc) (a b : ℕ) → IsArcPath xs a b path → HasGraphPath pieces arcs a b path
  graph_path [] a b leads = record { like = []; leads = leads; same = refl }
  graph_path (y ∷ path) a b leads =
      let from = (numbered.same y).0 leads.0 in
      let e : GraphArc = from.0 in
      let same : type_arc pieces e ≡ y = from.2 in
      let rest = graph_path path y.head b leads.2 in
      let head : y.head ≡ e.head = sym (ap (λ (z : TypeArc). z.head) same) in
      record {
        like = e ∷ rest.like;
        leads = (from.1, ap (λ (z : TypeArc). z.tail) same ∙ leads.1, subst (λ (v : ℕ). IsPath arcs v b rest.like) head rest.leads);
        same = λ k. (sym same) k ∷ rest.same k;
      }

  -- and one of the graph is one of the type
  pub type_path : (path : List GraphArc) (a b : ℕ) → IsPath arcs a b path → IsArcPath xs a b (map (type_arc pieces) path)
  type_path [] a b leads = leads
  type_path (e ∷ path) a b leads = ((numbered.same (type_arc pieces e)).1 (e, leads.0, refl), leads.1, type_path path e.head b leads.2)

  -- with the same content
  pub type_content : (path : List GraphArc) (a b : ℕ) → IsPath arcs a b path → content_of (map (type_arc pieces) path) ≡ content_along pieces path
  type_content path a b leads = arcs-content I pieces each path (path-known pieces arcs path a b known leads)
