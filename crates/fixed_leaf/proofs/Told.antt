-- The prices are some that a line can tell, of items and arcs that exist.
use Rattle.std.proofs.Common.{◌≡◌, ℕ, ◌+◌, ◌≤◌, List, [], length, sym, ap, subst, arith, All, Some, None, ℤ}
use Rattle.std.specs.Prelude.{AllPairs, Option, unsigned_abs}
use Rattle.std.proofs.lemmas.List.Elements.{All-cons, All-nil, All-weaker}
use Rattle.arc_num.specs.declared.TheConstants.{MAX_NUMBERED, MAX_PRICE}
use Rattle.packing_laws.specs.Instances.{InstanceValue}
use Rattle.flow_graph.specs.Arcs.{TypeValue, IsFlowGraph, numbered}
use Rattle.flow_graph.proofs.Numbers.{few_numbered}
use Rattle.cert_text.specs.declared.lines.ItemPrice.{ItemPrice}
use Rattle.cert_text.specs.declared.lines.Prices.{Prices}
use Rattle.cert_text.specs.Lines.{IsBetween}
use Rattle.fixed_leaf.specs.declared.faults.Fault.{Fault}
use Rattle.fixed_leaf.specs.declared.faults.Fault.TheVariants.{Above, Below, Unmet}
use Rattle.fixed_leaf.specs.declared.joints.Joint.{Joint}
use Rattle.fixed_leaf.specs.Leaves.{AreTold}
use Rattle.fixed_leaf.specs.inner.Found.{IsFault}
use Rattle.fixed_leaf.specs.inner.Nets.{AreJoints}
use Rattle.fixed_leaf.specs.inner.Priced.{ArePricesFor, items_for, listed_from, scale_for}
use Rattle.fixed_leaf.proofs.Listing.{Before, IsListed, all_listed, count_listed, listed_ascend}

-- prices of arcs that a line can tell, and of an item or none
module _ (I : InstanceValue) (g : List TypeValue) (is : IsFlowGraph g) (joints : List Joint) (are : AreJoints g joints) (fault : Option Fault) (p : Prices) (given : ArePricesFor I g joints fault p) where
  listed : All (IsListed 1 (1 + length (numbered g))) p.arcs
  listed =
      let one = given.are.size in
      let two = are.size in
      subst (All (IsListed 1 (1 + length (numbered g)))) (sym given.arcs) (all_listed 1 (1 + length (numbered g)) given.prices (omega (arith, one, two)) given.are.small)

  few : length p.arcs ≤ MAX_NUMBERED
  few =
      let one = given.are.size in
      let two = are.size in
      let count = count_listed 1 given.prices in
      let same : length p.arcs ≡ length (listed_from 1 given.prices) = ap length given.arcs in
      let room = few_numbered g is in
      omega (arith, one, two, count, same, room)

  abbrev Item_ok : ItemPrice → Type 0
  Item_ok x = (1 ≤ x.item) × IsBetween 1 MAX_PRICE x.price

  pub told : (items : List ItemPrice) → p.items ≡ items → length items ≤ 1 → All Item_ok items → All (λ x. x.item ≤ length I.items) items → AreTold I g p
  told items same short ok known = record {
    prices = record {
      scale = scale_small fault given.scale;
      item_count = let long : length p.items ≡ length items = ap length same in omega (arith, long, short);
      item_order = λ i j d less within. absurd (let long : length p.items ≡ length items = ap length same in omega (arith, less, within, long, short));
      items = subst (All Item_ok) (sym same) ok;
      arc_count = few;
      arc_order = subst (AllPairs Before) (sym given.arcs) (listed_ascend 1 given.prices given.are.small);
      arcs = All-weaker (IsListed 1 (1 + length (numbered g))) (λ x. (1 ≤ x.arc) × IsBetween 1 MAX_PRICE (unsigned_abs x.price)) (λ x own. (own.low, (own.some, own.small))) p.arcs listed;
    };
    items = subst (All (λ (x : ItemPrice). x.item ≤ length I.items)) (sym same) known;
    arcs = All-weaker (IsListed 1 (1 + length (numbered g))) (λ x. x.arc ≤ length (numbered g)) (λ x own. let high = own.high in omega (arith, high)) p.arcs listed;
  } where
    scale_small : (f : Option Fault) → p.scale ≡ scale_for f → p.scale ≤ MAX_PRICE
    scale_small None is = omega (arith, is)
    scale_small (Some f) is = omega (arith, is)

  pub told_free : p.items ≡ [] → AreTold I g p
  told_free none = told [] none (omega arith) (All-nil Item_ok) (All-nil (λ (x : ItemPrice). x.item ≤ length I.items))

pub told_flow : (I : InstanceValue) (g : List TypeValue) (is : IsFlowGraph g) (joints : List Joint) (are : AreJoints g joints) (p : Prices) → ArePricesFor I g joints None p → AreTold I g p
told_flow I g is joints are p given = told_free I g is joints are None p given given.items

pub told_fault : (I : InstanceValue) (g : List TypeValue) (is : IsFlowGraph g) (joints : List Joint) (are : AreJoints g joints) (box : List (ℕ × ℕ)) (values : List ℤ) (p : Prices) (fault : Fault) → ArePricesFor I g joints (Some fault) p → IsFault I g box values fault → AreTold I g p
told_fault I g is joints are box values p (Below b) given bad = told_free I g is joints are (Some (Below b)) p given given.items
told_fault I g is joints are box values p (Above b) given bad = told_free I g is joints are (Some (Above b)) p given given.items
told_fault I g is joints are box values p (Unmet i) given bad = told I g is joints are (Some (Unmet i)) p given (items_for (Some (Unmet i))) given.items (omega arith) (All-cons (λ (x : ItemPrice). (1 ≤ x.item) × IsBetween 1 MAX_PRICE x.price) (record { item = i; price = 1 }) [] (bad.0.0, (omega arith, omega arith)) (All-nil (λ (x : ItemPrice). (1 ≤ x.item) × IsBetween 1 MAX_PRICE x.price))) (All-cons (λ (x : ItemPrice). x.item ≤ length I.items) (record { item = i; price = 1 }) [] bad.0.1 (All-nil (λ (x : ItemPrice). x.item ≤ length I.items)))
