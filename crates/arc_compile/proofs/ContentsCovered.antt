-- Each content that fits a type and is within the demands is that of a path of its final graph.
use Rattle.std.proofs.Common.{◌≡◌, ℕ, ◌+◌, ◌<◌, List, length, ◌∙◌, ap, sym, subst, get_or}
use Rattle.std.specs.Prelude.{All}
use Rattle.std.proofs.lemmas.List.{length-map}
use Rattle.packing_laws.specs.Instances.{InstanceValue, IsInstance}
use Rattle.packing_laws.specs.Packings.{Content, Fits, IsWithin}
use Rattle.packing_laws.specs.Printed.{SameContent}
use Rattle.label_graph.specs.declared.parts.GraphArc.{GraphArc}
use Rattle.label_graph.specs.Graph.{GraphValue, IsPath, IsKnown, copies_along}
use Rattle.label_graph.specs.ImageLaws.{CarriesAs}
use Rattle.level_graph.specs.declared.states.State.{State}
use Rattle.level_graph.specs.LevelLaws.{ChoicesHaveOnePath}
use Rattle.main_compress.specs.MainLaws.{MainGraphsKeepContents}
use Rattle.final_compress.specs.FinalLaws.{FinalGraphsKeepContents}
use Rattle.arc_compile.specs.Extended.{extended_capacity}
use Rattle.arc_compile.specs.Exact.{content_along, HasPathOf}
use Rattle.arc_compile.specs.Graphs.{AreTypeGraphs}
use Rattle.arc_compile.specs.Pieces.{padded}
use Rattle.arc_compile.proofs.PathContents.{path-known}
use Rattle.arc_compile.proofs.PathCounts.{same_content}
use Rattle.arc_compile.proofs.PieceChoices.{choice_of, is_choice}
use Rattle.arc_compile.proofs.PieceNumbers.{hold_own}
use Rattle.arc_compile.proofs.TypeGraphs.{AreGraphs, same_pieces}

-- a path that carries as another, which carries as a third
pub carried-twice : (first second third : List GraphArc) (n : ℕ) (content : List ℕ) → CarriesAs third second → CarriesAs second first → ((p : ℕ) → p < n → copies_along (p + 1) first ≡ get_or content p 0) → (p : ℕ) → p < n → copies_along (p + 1) third ≡ get_or content p 0
carried-twice first second third n content later sooner copies p lt = later (p + 1) ∙ (sooner (p + 1) ∙ copies p lt)

module _ (levels : ChoicesHaveOnePath) (mains : MainGraphsKeepContents) (finals : FinalGraphsKeepContents) (N : ℕ) (I : InstanceValue) (t : ℕ) (level main final : GraphValue N) (known : IsInstance I) (types : AreTypeGraphs I t level main final) (graphs : AreGraphs I t level main final) where
  -- a path of the final graph with the copies of a content's choice
  record HasPathOfChoice (c : Content) : Type 0 where
    path : List GraphArc
    leads : IsPath final.arcs 1 (length final.labels) path
    copies : (p : ℕ) → p < length types.mains.pieces → copies_along (p + 1) path ≡ get_or (choice_of types.mains.pieces c) p 0

  choice_path : (c : Content) → Fits I t c → IsWithin I c → HasPathOfChoice c
  choice_path c fits within =
      let pieces = types.mains.pieces in
      let cap = padded N (extended_capacity I t) in
      let is = types.mains.level_is in
      let first = levels N pieces cap is.states level.arcs is.levels (choice_of pieces c) (is_choice I t known pieces (hold_own I t pieces types.mains.are_pieces) c fits within) in
      let nodes : length is.states ≡ length level.labels = sym (length-map is.states (λ (s : State N). s.used)) ∙ ap length (sym is.labels_are) in
      let leads : IsPath level.arcs 1 (length level.labels) first.path = subst (λ (n : ℕ). IsPath level.arcs 1 n first.path) nodes first.leads in
      let second = mains N cap level main graphs.level_graph graphs.room types.mains.main_is first.path leads in
      let third = finals N main final graphs.main_graph types.final_is second.like second.leads in
      record {
        path = third.like;
        leads = third.leads;
        copies = carried-twice first.path second.like third.like (length pieces) (choice_of pieces c) third.carries second.carries first.along.copies;
      }

  pub contents_covered : (c : Content) → Fits I t c → IsWithin I c → HasPathOf final c
  contents_covered c fits within =
      let pieces = types.mains.pieces in
      let same : final.pieces ≡ pieces = same_pieces I t level main final types in
      let found = choice_path c fits within in
      let marks = path-known final.pieces final.arcs found.path 1 (length final.labels) graphs.final_graph.known found.leads in
      let content : SameContent (content_along pieces found.path) c = same_content I t known pieces (hold_own I t pieces types.mains.are_pieces) c fits within found.path (subst (λ ps. All (λ e. IsKnown ps e.mark) found.path) same marks) found.copies in
      record {
        path = found.path;
        leads = found.leads;
        same = subst (λ ps. SameContent (content_along ps found.path) c) (sym same) content;
      }
