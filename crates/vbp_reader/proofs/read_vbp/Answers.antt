use Rattle.std.proofs.Common.{rules, ◌≡◌, ℕ, Err, ◌⊎◌, inl, inr, subst}
use Rattle.packing_laws.specs.declared.fault.ReadFault.{ReadFault}
use Rattle.packing_laws.specs.declared.fault.ReadFault.TheVariants.{Memory, Total}
use Rattle.packing_laws.specs.Places.{Place}
use Rattle.packing_laws.specs.Layouts.{plain_instance_at}
use Rattle.vbp_reader.proofs.PlainRows.{instance_sound}
use Rattle.vbp_reader.proofs.PlainFaults.{IsPlainFault, instance_faults}
use Rattle.vbp_reader.proofs.read_vbp.Goals as goal

-- the answer's fault is not that of too many forms
not_total : (p : Place) (e : ReadFault) (k : ℕ) → (e ≡ Memory) ⊎ (plain_instance_at p ≡ Err e) → e ≡ Total k → ⊥
not_total p e k (inl m) same = cc
not_total p e k (inr h) same = subst IsPlainFault same (instance_faults p e h)

pub into_instance-requires : goal.into_instance-requires
into_instance-requires c = (instance_sound c.new.result c.in_ok-parts.parts c.in_ok-parts.ensures).0.0

pub returns-in_err-parts-clause-total : goal.returns-in_err-parts-clause-total
returns-in_err-parts-clause-total c = λ k same. not_total c.new.result c.in_err-parts.field-0.0 k c.in_err-parts.ensures (search (same, rules))
