use Rattle.std.proofs.Common.{◌≡◌, ◌∙◌, Bool, true, false, Option, None, Some, is_some, refl, sym}
use Rattle.arc_compile.proofs.RowLemmas.{both_rows, left_starved}
use Rattle.arc_compile.proofs.rows.joined.Goals as goal

-- what is not there is none
none_of : {T : Type 0} (o : Option T) (b : Bool) → b ≡ is_some o → b ≡ false → o ≡ None
none_of None b e h = refl
none_of (Some x) b e h = absurd (cc)

pub returns-in-Ok : goal.returns-in-Ok
returns-in-Ok c = λ I first half rest is_left is_right.
    both_rows I first half rest c.args.left c.args.right is_left is_right c.append.new.self.items _ (none_of c.args.left.fault c.is_some.result c.is_some.ensures c.if-is_some.false) c.in-Ok.ensures.items refl refl

pub returns : goal.returns
returns c = λ I first half rest is_left is_right. left_starved I first half rest c.args.left c.args.right is_left is_right _ c.in-Err.ensures.items refl
