-- The law on the certificate as it is made.
use Rattle.std.proofs.Common.{rules}
use Rattle.bound_certificates.specs.FoundBounds.{IsCertificateOf}
use Rattle.bound_certificates.proofs.certificates.bound_certificate.Goals as goal

pub returns-clause-accepted : goal.returns-clause-accepted
returns-clause-accepted c =
    let whole : IsCertificateOf c.args.instance.now c.args.found _ = search rules in
    c.found_bounds_are_accepted.ensures c.args.instance.now c.args.found _ c.known.ensures c.requires whole
