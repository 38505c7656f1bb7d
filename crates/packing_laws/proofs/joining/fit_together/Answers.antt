-- What was tested is all that is asked.
use Rattle.std.proofs.Common.{◌≡◌, ◌∙◌, List, ℕ, ap, rules}
use Rattle.std.proofs.lemmas.List.Elements.{All-append}
use Rattle.packing_laws.specs.declared.instances.BinType.{BinType}
use Rattle.packing_laws.specs.Instances.{InstanceValue, type_at}
use Rattle.packing_laws.specs.Packings.{Content, Exists}
use Rattle.packing_laws.proofs.CapLaws.{kept-together, light-together}
use Rattle.packing_laws.proofs.joining.fit_together.Goals as goal

pub returns-then-are_light : goal.returns-then-are_light
returns-then-are_light c =
    let I : InstanceValue = c.args.instance.now in
    let first : Content = c.args.first.now.counts in
    let second : Content = c.args.second.now.counts in
    let room : c.as_slice.result.now ≡ (type_at I c.args.t).cap = c.as_slice.ensures ∙ ap (λ (x : BinType). x.cap) c.in-Some.ensures.value in
    let caps = kept-together I c.caps.result.now c.as_slice-first.result.now c.as_slice-second.result.now first second c.caps.ensures.value c.as_slice-first.ensures c.as_slice-second.ensures in (
      (λ yes. record {
        bin_type = search rules;
        exists = All-append (Exists I) first second c.requires.one c.requires.other;
        weight = light-together I c.as_slice.result.now (type_at I c.args.t).cap c.as_slice-first.result.now c.as_slice-second.result.now first second room c.as_slice-first.ensures c.as_slice-second.ensures (c.are_light.ensures.0 c.if-are_light.true);
        caps = caps.0 (c.keep_caps.ensures.0 yes);
      }),
      (λ fits. c.keep_caps.ensures.1 (caps.1 fits.caps)),
    )
