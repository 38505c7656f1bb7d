-- There is but one number of arcs of the main graphs of the first types, and it rises from type to type.
use Rattle.std.proofs.Common.{◌≡◌, ℕ, zero, suc, ◌-◌, ◌<◌, ◌≤◌, List, length, map, sym, ap, ◌∙◌, subst, ⊎_elim, arith}
use Rattle.std.specs.Prelude.{AllPairs}
use Rattle.std.specs.Cmp.{IsTotalOrder}
use Rattle.std.specs.declared.cmp.Ordering.TheVariants.{Less, Equal}
use Rattle.std.proofs.lemmas.Bool.{cases_lt, cases_order}
use Rattle.std.proofs.lemmas.Cmp.{nat_cmp_total, nat_list_cmp_total, on_total, then_total, back_total, tied_itself}
use Rattle.std.proofs.lemmas.List.Elements.{All-contains}
use Rattle.std.proofs.lemmas.Map.Keys.{Less-from_sorted}
use Rattle.packing_laws.specs.Instances.{InstanceValue}
use Rattle.label_graph.specs.declared.parts.Piece.{Piece}
use Rattle.label_graph.specs.Graph.{GraphValue}
use Rattle.level_graph.specs.declared.states.State.{State}
use Rattle.level_graph.specs.Levels.{IsLevelGraph}
use Rattle.level_graph.specs.LevelLaws.{LevelsAreOne}
use Rattle.label_graph.proofs.OneImage.{same-list}
use Rattle.main_compress.specs.MainGraphs.{IsMainGraph}
use Rattle.main_compress.specs.MainLaws.{MainGraphsAreOne}
use Rattle.arc_compile.specs.CompileLaws.{SizesAreOne}
use Rattle.arc_compile.specs.Extended.{places_of, extended_capacity}
use Rattle.arc_compile.specs.Graphs.{AreMainGraphs, HasMainArcs, HaveMainArcs, IsSmall, IsTooLarge}
use Rattle.arc_compile.specs.Pieces.{padded, IsPiece, ArePieces, piece_cmp}

module _ {N : ℕ} where
  pub piece_total : IsTotalOrder (piece_cmp {N = N})
  piece_total = then_total (back_total (on_total (λ (q : Piece N). q.weight) nat_list_cmp_total)) (then_total (on_total (λ (q : Piece N). q.item) nat_cmp_total) (on_total (λ (q : Piece N). q.form) nat_cmp_total))

  pub never_both : (p q : Piece N) → piece_cmp p q ≡ Less → piece_cmp q p ≡ Less → ⊥
  never_both p q h k =
      let itself : piece_cmp p p ≡ Less = piece_total.trans p q p h k in
      let tied : piece_cmp p p ≡ Equal = tied_itself piece_total p in
      let bad : Equal ≡ Less = sym tied ∙ itself in
      cc

  -- there is but one list of the pieces of a type
  pub one_pieces : (I : InstanceValue) (t : ℕ) (pieces others : List (Piece N)) → ArePieces I t pieces → ArePieces I t others → pieces ≡ others
  one_pieces I t pieces others first second =
      let up : (ps : List (Piece N)) → ArePieces I t ps → AllPairs (λ p q. piece_cmp p q ≡ Less) ps = λ ps are i j d lt in_range. Less-from_sorted piece_cmp ps i j d are.order lt in_range in
      same-list (λ p q. piece_cmp p q ≡ Less) never_both pieces others (up pieces first) (up others second)
      (λ q m. second.all q (All-contains (IsPiece I t) pieces q first.each m))
      (λ q m. first.all q (All-contains (IsPiece I t) others q second.each m))

  -- there is but one level graph
  pub one_level : LevelsAreOne → (pieces : List (Piece N)) (room : List ℕ) (g other : GraphValue N) → IsLevelGraph pieces room g → IsLevelGraph pieces room other → g ≡ other
  one_level levels_one pieces room g other first second =
      let used : State N → List ℕ = λ s. s.used in
      let same = levels_one N pieces room first.states second.states g.arcs other.arcs first.levels second.levels in
      let labels : g.labels ≡ other.labels = first.labels_are ∙ (ap (map used) same.0 ∙ sym second.labels_are) in
      let whole : g.pieces ≡ other.pieces = first.pieces_are ∙ sym second.pieces_are in
      λ i. record { pieces = whole i; labels = labels i; arcs = same.1 i }

module _ (levels_one : LevelsAreOne) (mains_one : MainGraphsAreOne) (I : InstanceValue) where
  -- there is but one main graph of a type
  pub one_main : (N t : ℕ) (level more main other : GraphValue N) → AreMainGraphs I t level main → AreMainGraphs I t more other → main ≡ other
  one_main N t level more main other first second =
      let room = padded N (extended_capacity I t) in
      let pieces : second.pieces ≡ first.pieces = one_pieces I t second.pieces first.pieces second.are_pieces first.are_pieces in
      let same : more ≡ level = one_level levels_one first.pieces room more level (subst (λ (ps : List (Piece N)). IsLevelGraph ps room more) pieces second.level_is) first.level_is in
      mains_one N room level main other first.main_is (subst (λ (g : GraphValue N). IsMainGraph room g other) same second.main_is)

  pub one_main_arcs : (N t : ℕ) (arcs more : ℕ) → HasMainArcs N I t arcs → HasMainArcs N I t more → arcs ≡ more
  one_main_arcs N t arcs more first second =
      let main : first.main ≡ second.main = one_main N t first.level second.level first.main second.main first.mains second.mains in
      first.arcs_are ∙ (ap (λ (g : GraphValue N). length g.arcs) main ∙ sym second.arcs_are)

  -- the first types have but one number of arcs
  pub one_sum : (t arcs more : ℕ) → HaveMainArcs I t arcs → HaveMainArcs I t more → arcs ≡ more
  one_sum zero arcs more first second = first ∙ sym second
  one_sum (suc t) arcs more first second = omega (arith, first.4, second.4, one_sum t first.0 second.0 first.2 second.2, one_main_arcs (places_of I) (suc t) first.1 second.1 first.3 second.3)

  -- which rises from type to type
  pub sums-rise : (t s arcs more : ℕ) → t ≤ s → HaveMainArcs I t arcs → HaveMainArcs I s more → arcs ≤ more
  sums-rise t zero arcs more le first second =
      let same : t ≡ 0 = omega arith in
      let none : arcs ≡ more = one_sum 0 arcs more (subst (λ (k : ℕ). HaveMainArcs I k arcs) same first) second in
      omega arith
  sums-rise t (suc s) arcs more le first second =
      ⊎_elim
      (λ lt. omega (arith, second.4, sums-rise t s arcs second.0 (omega arith) first second.2))
      (λ ge.
      let same : t ≡ suc s = omega arith in
      let one : arcs ≡ more = one_sum (suc s) arcs more (subst (λ (k : ℕ). HaveMainArcs I k arcs) same first) second in
      omega arith)
      (cases_lt t (suc s))

  pub never_small : (t : ℕ) → IsSmall I → IsTooLarge I t → ⊥
  never_small t small large =
      let rises = sums-rise t (length I.types) large.arcs small.0 large.bin_type.1 large.have small.1 in
      omega (arith, small.2, large.past)

  pub never_before : (t s : ℕ) → IsTooLarge I t → IsTooLarge I s → t < s → ⊥
  never_before t s first second lt =
      let rises = sums-rise t (s - 1) first.arcs second.before (omega arith) first.have second.have_before in
      omega (arith, first.past, second.within)

  pub one_first : (t s : ℕ) → IsTooLarge I t → IsTooLarge I s → t ≡ s
  one_first t s first second =
      ⊎_elim
      (λ same. same)
      (λ apart. ⊎_elim (λ lt. absurd (never_before t s first second lt)) (λ gt. absurd (never_before s t second first gt)) apart)
      (cases_order t s)

pub sizes_are_one : LevelsAreOne → MainGraphsAreOne → SizesAreOne
sizes_are_one levels_one mains_one =
    record {
      small = λ I t known small large. never_small levels_one mains_one I t small large;
      first = λ I t s known one other. one_first levels_one mains_one I t s one other;
    }
