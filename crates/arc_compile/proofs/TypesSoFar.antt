-- The first types of an instance compiled.
use Rattle.std.proofs.Common.{◌≡◌, ℕ, suc, ◌+◌, ◌-◌, ◌<◌, ◌≤◌, List, [], ◌∷◌, ◌++◌, length, length-append, refl, sym, ap, ◌∙◌, subst, ⊎_elim, arith, sum_by}
use Rattle.std.proofs.lemmas.Bool.{cases_lt}
use Rattle.std.proofs.lemmas.List.{get_or_append_left, get_or_push}
use Rattle.std.proofs.lemmas.List.Sums.{sum_by-append}
use Rattle.arc_num.specs.declared.TheConstants.{MAX_ARCS}
use Rattle.packing_laws.specs.Instances.{InstanceValue, IsAmong}
use Rattle.flow_graph.specs.Arcs.{TypeValue, flow_type}
use Rattle.arc_compile.specs.declared.results.TypeSize.{TypeSize}
use Rattle.arc_compile.specs.Extended.{places_of}
use Rattle.arc_compile.specs.Graphs.{AreMainGraphs, HaveMainArcs, HasMainArcs, IsSmall, IsTooLarge}
use Rattle.arc_compile.specs.Compiled.{IsCompiledType, AreCompiled, size_at}

-- the first types are compiled, and this is the room that their main graphs leave
pub record AreCompiledSoFar (I : InstanceValue) (done : ℕ) (g : List TypeValue) (sizes : List TypeSize) (room : ℕ) : Type 0 where
  pub types : length g ≡ done
  pub count : length sizes ≡ done
  pub each : (t : ℕ) → IsAmong t done → IsCompiledType (places_of I) I t (flow_type g t) (size_at sizes t)
  pub within : room ≤ MAX_ARCS
  pub arcs : HaveMainArcs I done (MAX_ARCS - room)
  pub row : sum_by (λ x. length x.arcs) g + room ≤ MAX_ARCS

pub none_so_far : (I : InstanceValue) → AreCompiledSoFar I 0 [] [] MAX_ARCS
none_so_far I = record {
  types = refl;
  count = refl;
  each = λ t among. absurd (omega (arith, among.0, among.1));
  within = omega arith;
  arcs = omega arith;
  row = omega arith;
}

module _ (I : InstanceValue) (done : ℕ) (g : List TypeValue) (sizes : List TypeSize) (room : ℕ) (so_far : AreCompiledSoFar I done g sizes room) where
  abbrev no_type : TypeValue
  no_type = record { nodes = 1; arcs = [] }

  abbrev no_size : TypeSize
  no_size = record { main_nodes = 0; main_arcs = 0; final_nodes = 0; final_arcs = 0 }

  -- one more type
  pub one_more : (x : TypeValue) (size : TypeSize) → IsCompiledType (places_of I) I (done + 1) x size → size.main_arcs ≤ room → length x.arcs ≤ size.main_arcs → AreCompiledSoFar I (done + 1) (g ++ x ∷ []) (sizes ++ size ∷ []) (room - size.main_arcs)
  one_more x size compiled roomy fewer = record {
    types = length-append g (x ∷ []) ∙ ap (λ (n : ℕ). n + 1) so_far.types;
    count = length-append sizes (size ∷ []) ∙ ap (λ (n : ℕ). n + 1) so_far.count;
    each = λ t among. ⊎_elim (λ lt. before t among (omega (arith, lt))) (λ le. here t (omega (arith, among.1, le))) (cases_lt t (done + 1));
    within = omega (arith, so_far.within);
    arcs = subst (λ (n : ℕ). HaveMainArcs I n (MAX_ARCS - (room - size.main_arcs))) (sym suc_is) (
      MAX_ARCS - room,
      size.main_arcs,
      so_far.arcs,
      record { level = compiled.level; main = compiled.main; mains = subst (λ (n : ℕ). AreMainGraphs I n compiled.level compiled.main) suc_is compiled.graphs.mains; arcs_are = compiled.sizes.main_arcs },
      omega (arith, so_far.within, roomy),
    );
    row = let sum : sum_by (λ (y : TypeValue). length y.arcs) (g ++ x ∷ []) ≡ sum_by (λ (y : TypeValue). length y.arcs) g + sum_by (λ (y : TypeValue). length y.arcs) (x ∷ []) = sum_by-append (λ (y : TypeValue). length y.arcs) g (x ∷ []) in
        let one : sum_by (λ (y : TypeValue). length y.arcs) (x ∷ []) ≡ length x.arcs = omega arith in
        omega (arith, so_far.row, roomy, fewer);
  }
    where
      suc_is : done + 1 ≡ suc done
      suc_is = omega arith

      before : (t : ℕ) → IsAmong t (done + 1) → t ≤ done → IsCompiledType (places_of I) I t (flow_type (g ++ x ∷ []) t) (size_at (sizes ++ size ∷ []) t)
      before t among le =
          let low : t - 1 < length g = omega (arith, so_far.types, among.0, le) in
          let small : t - 1 < length sizes = omega (arith, so_far.count, among.0, le) in
          subst (λ (y : TypeValue). IsCompiledType (places_of I) I t y (size_at (sizes ++ size ∷ []) t)) (sym (get_or_append_left g (x ∷ []) no_type (t - 1) low))
          (subst (λ (s : TypeSize). IsCompiledType (places_of I) I t (flow_type g t) s) (sym (get_or_append_left sizes (size ∷ []) no_size (t - 1) small)) (so_far.each t (among.0, le)))

      here : (t : ℕ) → t ≡ done + 1 → IsCompiledType (places_of I) I t (flow_type (g ++ x ∷ []) t) (size_at (sizes ++ size ∷ []) t)
      here t is =
          let at : t - 1 ≡ length g = omega (arith, so_far.types, is) in
          let size_is : t - 1 ≡ length sizes = omega (arith, so_far.count, is) in
          let last : flow_type (g ++ x ∷ []) t ≡ x = get_or_push g x no_type (t - 1) (sym at) in
          let last_size : size_at (sizes ++ size ∷ []) t ≡ size = get_or_push sizes size no_size (t - 1) (sym size_is) in
          subst (λ (y : TypeValue). IsCompiledType (places_of I) I t y (size_at (sizes ++ size ∷ []) t)) (sym last)
          (subst (λ (s : TypeSize). IsCompiledType (places_of I) I t x s) (sym last_size) (subst (λ (n : ℕ). IsCompiledType (places_of I) I n x size) (sym is) compiled))

  -- all types
  pub all_compiled : done ≡ length I.types → AreCompiled I g sizes
  all_compiled all = record {
    types = so_far.types ∙ all;
    count = so_far.count ∙ all;
    each = λ t among. so_far.each t (among.0, omega (arith, among.1, all));
  }

  pub all_small : done ≡ length I.types → IsSmall I
  all_small all = (MAX_ARCS - room, subst (λ (n : ℕ). HaveMainArcs I n (MAX_ARCS - room)) all so_far.arcs, omega arith)

  -- the next type has more arcs than there is room
  pub too_large : IsAmong (done + 1) (length I.types) → (more : ℕ) → HasMainArcs (places_of I) I (done + 1) more → room < more → IsTooLarge I (done + 1)
  too_large among more has past =
      let suc_is : done + 1 ≡ suc done = omega arith in
      let back : done ≡ done + 1 - 1 = omega arith in
      record {
        bin_type = among;
        before = MAX_ARCS - room;
        have_before = subst (λ (n : ℕ). HaveMainArcs I n (MAX_ARCS - room)) back so_far.arcs;
        within = omega arith;
        arcs = MAX_ARCS - room + more;
        have = subst (λ (n : ℕ). HaveMainArcs I n (MAX_ARCS - room + more)) (sym suc_is) (MAX_ARCS - room, more, so_far.arcs, subst (λ (n : ℕ). HasMainArcs (places_of I) I n more) suc_is has, refl);
        past = omega (arith, so_far.within, past);
      }
