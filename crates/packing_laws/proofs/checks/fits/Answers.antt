-- What was tested is all that is asked.
use Rattle.std.proofs.Common.{rules}
use Rattle.packing_laws.proofs.CapLaws.{kept-caps}
use Rattle.packing_laws.proofs.checks.fits.Goals as goal

pub returns-then-is_light : goal.returns-then-is_light
returns-then-is_light c =
    let caps = kept-caps c.args.instance.now c.caps.result.now c.as_slice-counts.result.now c.args.bin.now.counts c.caps.ensures.value c.as_slice-counts.ensures in (
      (λ yes. record { bin_type = search rules; exists = search rules; weight = search rules; caps = caps.0 (c.keeps_caps.ensures.0 yes) }),
      (λ fits. c.keeps_caps.ensures.1 (caps.1 fits.caps)),
    )
