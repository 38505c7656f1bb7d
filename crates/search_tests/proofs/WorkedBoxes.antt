-- The worked boxes lie in the root box.
use Rattle.std.proofs.Common.{◌≡◌, ℕ, zero, suc, ◌≤◌, List, refl, arith, subst, sym}
use Rattle.std.specs.Prelude.{replicate}
use Rattle.packing_laws.specs.Instances.{IsAmong}
use Rattle.flow_graph.specs.Chords.{range_at}
use Rattle.flow_model.specs.Boxes.{LiesWithin, root_ranges}
use Rattle.search_tests.specs.Worked.{both_graphs, box_of, three_in_two}

by_six : (P : ℕ → Type 0) → P 1 → P 2 → P 3 → P 4 → P 5 → P 6 → (a : ℕ) → IsAmong a 6 → P a
by_six P one two three four five six zero among = absurd (omega (arith, among.0))
by_six P one two three four five six (suc zero) among = one
by_six P one two three four five six (suc (suc zero)) among = two
by_six P one two three four five six (suc (suc (suc zero))) among = three
by_six P one two three four five six (suc (suc (suc (suc zero)))) among = four
by_six P one two three four five six (suc (suc (suc (suc (suc zero))))) among = five
by_six P one two three four five six (suc (suc (suc (suc (suc (suc zero)))))) among = six
by_six P one two three four five six (suc (suc (suc (suc (suc (suc (suc a))))))) among = absurd (omega (arith, among.1))

abbrev root : List (ℕ × ℕ)
root = replicate 6 (0, 3)

root_is : root_ranges three_in_two both_graphs ≡ root
root_is = refl

in_root : (b l p o m : ℕ) → b ≤ 3 → l ≤ 3 → p ≤ 3 → o ≤ 3 → m ≤ 3 → LiesWithin (box_of b l p o m) root
in_root b l p o m bins loss piece others most = record {
  size = refl;
  low = by_six (λ a. (range_at root a).0 ≤ (range_at (box_of b l p o m) a).0) (omega arith) (omega arith) (omega arith) (omega arith) (omega arith) (omega arith);
  order = by_six (λ a. (range_at (box_of b l p o m) a).0 ≤ (range_at (box_of b l p o m) a).1) (omega arith) (omega arith) (omega arith) (omega arith) (omega arith) (omega arith);
  high = by_six (λ a. (range_at (box_of b l p o m) a).1 ≤ (range_at root a).1) bins most most loss piece others;
}

pub lies_within : (b l p o m : ℕ) → b ≤ 3 → l ≤ 3 → p ≤ 3 → o ≤ 3 → m ≤ 3 → LiesWithin (box_of b l p o m) (root_ranges three_in_two both_graphs)
lies_within b l p o m bins loss piece others most = subst (LiesWithin (box_of b l p o m)) (sym root_is) (in_root b l p o m bins loss piece others most)
