-- Zeros behind all weights and labels change nothing of an image.
use Rattle.std.proofs.Common.{◌≡◌, ℕ, ◌+◌, ◌-◌, ◌<◌, ◌≤◌, List, [], ◌++◌, length, get_or, map, take, drop, replicate, sym, ap, ◌∙◌, subst, arith}
use Rattle.std.specs.Prelude.{Contains, All}
use Rattle.std.proofs.lemmas.List.{take-append-drop, length-drop, length-take-le, length-replicate, length-map, get_or-map, get_or-drop, ext_get_or}
use Rattle.std.proofs.lemmas.List.Elements.{All-contains, Contains-get_or}
use Rattle.weight_vec.specs.Weight.{Before}
use Rattle.weight_vec.proofs.Places.{get_or-zeros}
use Rattle.weight_vec.proofs.Orders.{slice_cmp-padded}
use Rattle.label_graph.specs.declared.parts.GraphArc.{GraphArc}
use Rattle.label_graph.specs.Graph.{GraphValue, IsGraph, label_of}
use Rattle.label_graph.specs.Images.{IsLabelling, IsImage, AreDistinct, IsMergedInto}
use Rattle.label_graph.specs.Cuts.{IsPadded, cut_piece, cut_labels, cut_graph}
use Rattle.label_graph.proofs.Merging.{arc-ends, label-contains}

-- a padded list is its first places and zeros
padded-split : (N n : ℕ) (l : List ℕ) → n ≤ N → length l ≡ N → IsPadded n l → l ≡ take n l ++ replicate (N - n) 0
padded-split N n l fits sized padded =
    let rest : drop n l ≡ replicate (N - n) 0 =
    ext_get_or 0 (drop n l) (replicate (N - n) 0) (omega (arith, length-drop n l, length-replicate {A = ℕ} (N - n) 0)) (λ k lt. get_or-drop n l k 0 ∙ padded (n + k) (omega arith) ∙ sym (get_or-zeros (N - n) k)) in
    sym (take-append-drop n l) ∙ ap (λ (z : List ℕ). take n l ++ z) rest

-- the first places of a list of labels
cut-label : (n : ℕ) (labels : List (List ℕ)) (v : ℕ) → 1 ≤ v → v ≤ length labels → label_of (cut_labels n labels) v ≡ take n (label_of labels v)
cut-label n labels v low high = let lt : v - 1 < length labels = omega arith in get_or-map (take n) labels (v - 1) [] [] lt

cut-length : (n : ℕ) (labels : List (List ℕ)) → length (cut_labels n labels) ≡ length labels
cut-length n labels = length-map labels (take n)

cut-member : (n : ℕ) (labels : List (List ℕ)) (l : List ℕ) → Contains labels l → Contains (cut_labels n labels) (take n l)
cut-member n labels l m =
    let lt : m.0 < length labels = m.1 in
    (m.0, omega (arith, cut-length n labels), get_or-map (take n) labels m.0 l (take n l) lt ∙ ap (take n) m.2)

from-cut-member : (n : ℕ) (labels : List (List ℕ)) (l : List ℕ) → Contains (cut_labels n labels) l → (whole : List ℕ) × Contains labels whole × (take n whole ≡ l)
from-cut-member n labels l m =
    let lt : m.0 < length (cut_labels n labels) = m.1 in
    let in_range : m.0 < length labels = omega (arith, cut-length n labels) in
    (get_or labels m.0 [], Contains-get_or labels m.0 [] in_range, sym (get_or-map (take n) labels m.0 [] l in_range) ∙ m.2)

module _ (N n : ℕ) (fits : n ≤ N) (labels distinct : List (List ℕ)) (sized : All (λ (l : List ℕ). length l ≡ N) labels) (padded : All (IsPadded n) labels) (are : AreDistinct labels distinct) where
  split : (l : List ℕ) → Contains labels l → l ≡ take n l ++ replicate (N - n) 0
  split l m = padded-split N n l fits (All-contains (λ (l : List ℕ). length l ≡ N) labels l sized m) (All-contains (IsPadded n) labels l padded m)

  cut-sized : (l : List ℕ) → Contains labels l → length (take n l) ≡ n
  cut-sized l m = length-take-le n l (omega (arith, All-contains (λ (l : List ℕ). length l ≡ N) labels l sized m))

  cut-before : (x y : List ℕ) → Contains labels x → Contains labels y → Before x y → Before (take n x) (take n y)
  cut-before x y mx my h =
      let one : Before (take n x ++ replicate (N - n) 0) y = subst (λ (z : List ℕ). Before z y) (split x mx) h in
      let two : Before (take n x ++ replicate (N - n) 0) (take n y ++ replicate (N - n) 0) = subst (λ (z : List ℕ). Before (take n x ++ replicate (N - n) 0) z) (split y my) one in
      sym (slice_cmp-padded (take n x) (take n y) (N - n) (cut-sized x mx ∙ sym (cut-sized y my))) ∙ two

  cut-same : (x y : List ℕ) → Contains labels x → Contains labels y → take n x ≡ take n y → x ≡ y
  cut-same x y mx my h = split x mx ∙ ap (λ (z : List ℕ). z ++ replicate (N - n) 0) h ∙ sym (split y my)

  pub cut-distinct : AreDistinct (cut_labels n labels) (cut_labels n distinct)
  cut-distinct =
      record {
        ordered = λ i j d lt in_range.
            let last : j < length distinct = omega (arith, cut-length n distinct) in
            let first : i < length distinct = omega arith in
            rw (get_or-map (take n) distinct i [] d first, get_or-map (take n) distinct j [] d last) (cut-before (get_or distinct i []) (get_or distinct j []) ((are.exact (get_or distinct i [])).0 (Contains-get_or distinct i [] first)) ((are.exact (get_or distinct j [])).0 (Contains-get_or distinct j [] last)) (are.ordered i j [] lt last));
        exact = λ l. (
          λ m. let whole = from-cut-member n distinct l m in subst (λ (z : List ℕ). Contains (cut_labels n labels) z) whole.2 (cut-member n labels whole.0 ((are.exact whole.0).0 whole.1)),
          λ m. let whole = from-cut-member n labels l m in subst (λ (z : List ℕ). Contains (cut_labels n distinct) z) whole.2 (cut-member n distinct whole.0 ((are.exact whole.0).1 whole.1)),
        );
      }

  pub cut-merged : (v w : ℕ) → 1 ≤ v → v ≤ length labels → IsMergedInto labels distinct v w → IsMergedInto (cut_labels n labels) (cut_labels n distinct) v w
  cut-merged v w low high merged =
      record {
        first = merged.first;
        last = omega (arith, merged.last, cut-length n distinct);
        label = cut-label n distinct w merged.first merged.last ∙ ap (take n) merged.label ∙ sym (cut-label n labels v low high);
      }

  pub whole-merged : (v w : ℕ) → 1 ≤ v → v ≤ length labels → IsMergedInto (cut_labels n labels) (cut_labels n distinct) v w → IsMergedInto labels distinct v w
  whole-merged v w low high merged =
      let last : w ≤ length distinct = omega (arith, merged.last, cut-length n distinct) in
      let same : take n (label_of distinct w) ≡ take n (label_of labels v) = sym (cut-label n distinct w merged.first last) ∙ merged.label ∙ cut-label n labels v low high in
      record {
        first = merged.first;
        last = last;
        label = cut-same (label_of distinct w) (label_of labels v) ((are.exact (label_of distinct w)).0 (label-contains distinct w merged.first last)) (label-contains labels v low high) same;
      }

pub cut-image : (N n : ℕ) (g image : GraphValue N) (labels : List (List ℕ)) → n ≤ N → IsGraph N g → IsLabelling g labels → All (IsPadded n) labels → IsImage g labels image → IsImage (cut_graph n g) (cut_labels n labels) (cut_graph n image)
cut-image N n g image labels fits is new padded made =
    let in_range : (e : GraphArc) → Contains g.arcs e → (1 ≤ e.tail) × (e.tail < e.head) × (e.head ≤ length labels) =
    λ e m. let ends = arc-ends g labels image.labels is new made.nodes e m in (ends.0, ends.1, omega (arith, ends.2, new.count)) in
    record {
      pieces = ap (map (cut_piece n)) made.pieces;
      nodes = cut-distinct N n fits labels image.labels new.sized padded made.nodes;
      ordered = made.ordered;
      arcs = λ x. (
        λ m. let e = (made.arcs x).0 m in
            let ends = in_range e.0 e.1 in (
              e.0,
              e.1,
              record {
                tail = cut-merged N n fits labels image.labels new.sized padded made.nodes e.0.tail x.tail ends.0 (omega (arith, ends.1, ends.2)) e.2.tail;
                head = cut-merged N n fits labels image.labels new.sized padded made.nodes e.0.head x.head (omega (arith, ends.0, ends.1)) ends.2 e.2.head;
                mark = e.2.mark;
                kept = e.2.kept;
              },
            ),
        λ e. let ends = in_range e.0 e.1 in (made.arcs x).1 (
          e.0,
          e.1,
          record {
            tail = whole-merged N n fits labels image.labels new.sized padded made.nodes e.0.tail x.tail ends.0 (omega (arith, ends.1, ends.2)) e.2.tail;
            head = whole-merged N n fits labels image.labels new.sized padded made.nodes e.0.head x.head (omega (arith, ends.0, ends.1)) ends.2 e.2.head;
            mark = e.2.mark;
            kept = e.2.kept;
          },
        ),
      );
    }
