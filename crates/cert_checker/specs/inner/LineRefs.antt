-- Which line a reference stands for.
use Rattle.cert_text.specs.declared.lines.CertLine.{CertLine}
use Rattle.cert_text.specs.declared.lines.CertLine.TheVariants as cert
use Rattle.cert_checker.specs.declared.lines.LineRef.{LineRef}
use Rattle.cert_checker.specs.declared.lines.LineRef.TheVariants.{Head, Claim, Place, End}

-- the line
abbrev pub line_of : LineRef → CertLine
line_of (Head version) = cert.Head version
line_of (Claim claim goal) = cert.Claim claim goal
line_of (Place line) = cert.Tree line.now
line_of End = cert.End
