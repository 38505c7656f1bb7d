use Rattle.std.proofs.Common.{◌≡◌, ◌∙◌, ℕ, List, ◌++◌, ap, append_assoc}
use Rattle.std.specs.Prelude.{codes, decimal}
use Rattle.std.proofs.lemmas.Result.{on_ok_weaker}
use Rattle.arc_program.proofs.verdicts.push_bound.Goals as goal

-- three parts, one after the other
three : (out first second third x y z : List ℕ) → first ≡ out ++ x → second ≡ first ++ y → third ≡ second ++ z → third ≡ out ++ (x ++ y ++ z)
three out first second third x y z a b c = c ∙ ap (λ (xs : List ℕ). xs ++ z) (b ∙ ap (λ (xs : List ℕ). xs ++ y) a) ∙ simp append_assoc

pub returns : goal.returns
returns c =
    on_ok_weaker c.push_bytes-2.result
    (λ e. three c.args.out.now.items c.push_bytes.new.out.items c.push_number.new.out.items c.push_bytes-2.new.out.items (codes "accepted bound ") (decimal c.args.bound) (codes "\n") c.in_ok-push_bytes.ensures.ok (c.in_ok-push_number.ensures.ok ∙ ap (λ (n : ℕ). c.push_bytes.new.out.items ++ decimal n) c.from.ensures) e)
    c.push_bytes-2.ensures.ok
