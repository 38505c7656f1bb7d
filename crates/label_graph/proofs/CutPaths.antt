-- The first places of weights and labels, along paths.
use Rattle.std.proofs.Common.{◌≡◌, ℕ, zero, suc, ◌-◌, ◌<◌, ◌≤◌, List, [], ◌∷◌, length, get_or, take, map, refl, sym, ap, ◌∙◌, arith}
use Rattle.std.proofs.lemmas.List.{get_or-map, get_or-take, take_all}
use Rattle.label_graph.specs.declared.parts.Piece.{Piece}
use Rattle.label_graph.specs.declared.parts.Mark.{Mark}
use Rattle.label_graph.specs.declared.parts.Mark.TheVariants.{Loss, Piece as Carries}
use Rattle.label_graph.specs.declared.parts.GraphArc.{GraphArc}
use Rattle.label_graph.specs.Graph.{GraphValue, label_of, mark_weight, weight_in}
use Rattle.label_graph.specs.Heaviest.{IsGreatestWeight}
use Rattle.label_graph.specs.Cuts.{cut_piece, cut_labels, cut_graph}

cut-weight_of : {N : ℕ} (n : ℕ) (pieces : List (Piece N)) (i : ℕ) → get_or (map (λ (q : Piece n). q.weight) (map (cut_piece n) pieces)) i [] ≡ take n (get_or (map (λ (q : Piece N). q.weight) pieces) i [])
cut-weight_of n [] i = sym (take_all n [] (omega arith))
cut-weight_of n (q ∷ pieces) zero = refl
cut-weight_of n (q ∷ pieces) (suc i) = cut-weight_of n pieces i

cut-carried : {N : ℕ} (n : ℕ) (pieces : List (Piece N)) (m : Mark) (d : ℕ) → d < n → get_or (mark_weight (map (cut_piece n) pieces) m) d 0 ≡ get_or (mark_weight pieces m) d 0
cut-carried n pieces Loss d lt = refl
cut-carried {N} n pieces (Carries p) d lt =
    ap (λ (l : List ℕ). get_or l d 0) (cut-weight_of n pieces (p - 1)) ∙ get_or-take n (get_or (map (λ (q : Piece N). q.weight) pieces) (p - 1) []) d 0 lt

pub cut-weight : {N : ℕ} (n : ℕ) (pieces : List (Piece N)) (d : ℕ) → d < n → (path : List GraphArc) → weight_in (map (cut_piece n) pieces) d path ≡ weight_in pieces d path
cut-weight n pieces d lt [] = refl
cut-weight n pieces d lt (e ∷ path) = omega (arith, cut-carried n pieces e.mark d lt, cut-weight n pieces d lt path)

pub cut-greatest : {N : ℕ} (n : ℕ) (g : GraphValue N) (a b d x : ℕ) → d < n → IsGreatestWeight g a b d x → IsGreatestWeight (cut_graph n g) a b d x
cut-greatest n g a b d x lt is =
    record {
      path = is.path;
      leads = is.leads;
      weighs = cut-weight n g.pieces d lt is.path ∙ is.weighs;
      most = λ other h. omega (arith, cut-weight n g.pieces d lt other, is.most other h);
    }

pub cut-label : (n : ℕ) (labels : List (List ℕ)) (v : ℕ) → 1 ≤ v → v ≤ length labels → label_of (cut_labels n labels) v ≡ take n (label_of labels v)
cut-label n labels v low high = get_or-map (take n) labels (v - 1) [] [] (omega arith)
