-- Lines behind other lines.
use Rattle.std.proofs.Common.{◌≡◌, ℕ, ◌+◌, false, List, [], ◌∷◌, ◌++◌, length, refl, ap, ◌∙◌, append_assoc, arith}
use Rattle.std.proofs.lemmas.List.Concat.{flat_map-append, flat_map-cons}
use Rattle.packing_laws.specs.Instances.{InstanceValue}
use Rattle.flow_graph.specs.Arcs.{TypeValue}
use Rattle.cert_text.specs.declared.lines.CertLine.{CertLine}
use Rattle.cert_text.specs.declared.lines.CertLine.TheVariants as cert
use Rattle.cert_text.specs.Spelling.{line_text_of, text_of}
use Rattle.cert_text.specs.Streams.{version_after, is_end}
use Rattle.cert_laws.specs.Rules.{Progress, after_line, after_lines, AreAccepted}
use Rattle.cert_checker.proofs.TakenLines.{counts}
use Rattle.cert_stream.specs.Verdicts.{AreInPlace}

pub after_append : (p : Progress) (xs ys : List CertLine) → after_lines p (xs ++ ys) ≡ after_lines (after_lines p xs) ys
after_append p [] ys = refl
after_append p (x ∷ xs) ys = after_append (after_line p x) xs ys

pub accepted_append : (I : InstanceValue) (g : List TypeValue) (p : Progress) (xs ys : List CertLine) → AreAccepted I g p xs → AreAccepted I g (after_lines p xs) ys → AreAccepted I g p (xs ++ ys)
accepted_append I g p [] ys a b = b
accepted_append I g p (x ∷ xs) ys a b = (a.0, accepted_append I g (after_line p x) xs ys a.1 b)

pub placed_append : (p : Progress) (xs ys : List CertLine) → AreInPlace p xs → AreInPlace (after_lines p xs) ys → AreInPlace p (xs ++ ys)
placed_append p [] ys a b = b
placed_append p (x ∷ xs) ys a b = (a.0, a.1, placed_append (after_line p x) xs ys a.2 b)

pub placed_parts : (p : Progress) (xs ys : List CertLine) → AreInPlace p (xs ++ ys) → AreInPlace p xs × AreInPlace (after_lines p xs) ys
placed_parts p [] ys a = (tt, a)
placed_parts p (x ∷ xs) ys a = let rest = placed_parts (after_line p x) xs ys a.2 in ((a.0, a.1, rest.0), rest.1)

pub line_version : (p : Progress) (line : CertLine) → (after_line p line).version ≡ version_after p.version line
line_version p (cert.Head version) = refl
line_version p (cert.Claim claim goal) = refl
line_version p (cert.Tree line) = refl
line_version p cert.End = refl

pub line_ends : (p : Progress) (line : CertLine) → p.ended ≡ false → (after_line p line).ended ≡ is_end line
line_ends p (cert.Head version) runs = runs
line_ends p (cert.Claim claim goal) runs = runs
line_ends p (cert.Tree line) runs = runs
line_ends p cert.End runs = refl

pub lines_count : (p : Progress) (xs : List CertLine) → (after_lines p xs).count ≡ p.count + length xs
lines_count p [] = omega arith
lines_count p (x ∷ xs) =
    let rest = lines_count (after_line p x) xs in
    let one = counts p x in
    omega (arith, rest, one)

-- the text of lines, by their parts
pub text_append : (xs ys : List CertLine) → text_of (xs ++ ys) ≡ text_of xs ++ text_of ys
text_append xs ys = flat_map-append line_text_of xs ys

pub text_first : (x : CertLine) (xs : List CertLine) (rest : List ℕ) → text_of (x ∷ xs) ++ rest ≡ line_text_of x ++ (text_of xs ++ rest)
text_first x xs rest = ap (λ t. t ++ rest) (flat_map-cons line_text_of x xs) ∙ append_assoc (line_text_of x) (text_of xs) rest

pub text_parts : (xs ys : List CertLine) (rest : List ℕ) → text_of (xs ++ ys) ++ rest ≡ text_of xs ++ (text_of ys ++ rest)
text_parts xs ys rest = ap (λ t. t ++ rest) (text_append xs ys) ∙ append_assoc (text_of xs) (text_of ys) rest
