use Rattle.std.proofs.Common.{◌≡◌, Result, Ok, Err, refl, inl, inr, ◌⊎◌}
use Rattle.packing_laws.specs.declared.fault.ReadFault.{ReadFault}
use Rattle.packing_laws.specs.Instances.{InstanceValue}
use Rattle.packing_laws.specs.Layouts.{reading_of}
use Rattle.layout_walk.proofs.laws.each_text_reads_or_has_a_bad_place.Goals as goal

-- an answer is one value or one fault
either : (r answer : Result InstanceValue ReadFault) → r ≡ answer → ((I : InstanceValue) × (r ≡ Ok I)) ⊎ ((e : ReadFault) × (r ≡ Err e))
either r (Ok I) h = inl (I, h)
either r (Err e) h = inr (e, h)

apart : (r : Result InstanceValue ReadFault) (I : InstanceValue) (e : ReadFault) → r ≡ Ok I → r ≡ Err e → ⊥
apart r I e h k = cc

one_value : (r : Result InstanceValue ReadFault) (I J : InstanceValue) → r ≡ Ok I → r ≡ Ok J → I ≡ J
one_value r I J h k = cc

one_fault : (r : Result InstanceValue ReadFault) (e f : ReadFault) → r ≡ Err e → r ≡ Err f → e ≡ f
one_fault r e f h k = cc

pub returns : goal.returns
returns c = λ layout text. record {
  some = either (reading_of layout text) (reading_of layout text) refl;
  one = apart (reading_of layout text);
  instance = one_value (reading_of layout text);
  fault = one_fault (reading_of layout text);
}
