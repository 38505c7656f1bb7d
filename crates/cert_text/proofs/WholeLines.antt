-- A line that is found is spelled by the fields, and the fields of a line are read as this line.
use Rattle.std.proofs.Common.{suc, zero, ◌≡◌, ℕ, ◌+◌, ◌≤◌, Bool, true, false, cond, ◌⊎◌, inl, inr, List, [], ◌∷◌, ◌++◌, length, Option, Some, None, refl, sym, ap, subst, ◌∙◌, arith}
use Rattle.std.specs.Prelude.{◌&&◌, ◌==◌, nat_le, option_map, decimal, codes, bytes_eq}
use Rattle.std.proofs.lemmas.Bool.Decides.{nat_tests}
use Rattle.std.proofs.lemmas.Option.{cond_some, some_pair_parts}
use Rattle.std.proofs.lemmas.List.{append-nil, nil_from_length}
use Rattle.arc_num.specs.declared.TheConstants.{MAX_DIMS, MAX_PRICE, MAX_VALUE}
use Rattle.cert_text.specs.declared.lines.Claim.{Claim}
use Rattle.cert_text.specs.declared.lines.Claim.TheVariants.{Bound, Empty}
use Rattle.cert_text.specs.declared.lines.TreeLine.{TreeLine}
use Rattle.cert_text.specs.declared.lines.TreeLine.TheVariants.{Split, Needed, Leaf, Step}
use Rattle.cert_text.specs.declared.lines.CertLine.{CertLine}
use Rattle.cert_text.specs.declared.lines.CertLine.TheVariants as cert
use Rattle.cert_text.specs.Lines.{IsBetween, IsGoal, IsClaim, IsTreeLine}
use Rattle.cert_text.specs.Spelling.{word_of, fields_of, goal_fields, claim_fields, prices_fields, need_fields}
use Rattle.cert_text.specs.Spelled.{IsNarrowTree, IsSpelled}
use Rattle.cert_text.specs.inner.Fields.{◌>>=◌, Found, widest, number_at, word_at, prices_at, need_at, split_at, needed_at, leaf_at, step_at, tree_at, later_at, head_at, goal_at, bound_at, claimed_at, claim_at, begun_at, line_in}
use Rattle.cert_text.proofs.Numerals.{both}
use Rattle.cert_text.proofs.Places.{bind_some, number_takes, number_again, same_word, word_takes, word_again}
use Rattle.cert_text.proofs.LineParts.{prices_take, prices_again, need_takes, need_again}

-- which way a test went
chosen : {A : Type 0} (b : Bool) (x y z : A) → cond b x y ≡ z → ((b ≡ true) × (x ≡ z)) ⊎ ((b ≡ false) × (y ≡ z))
chosen true x y z e = inl (refl, e)
chosen false x y z e = inr (refl, e)

-- the same with nothing in the other case
some_chosen : {A : Type 0} (b : Bool) (o : Option A) (x : A) → cond b o None ≡ Some x → (b ≡ true) × (o ≡ Some x)
some_chosen true o x e = (refl, e)
some_chosen false o x e = absurd (cc)

-- ---- the tree

-- the word and the fields are those of a place of the tree, with some fields left
record TakesTree (version : ℕ) (word : List ℕ) (fields : List (List ℕ)) (line : TreeLine) (left : List (List ℕ)) : Type 0 where
  pub word_is : word ≡ word_of (cert.Tree line)
  pub text : fields ≡ fields_of (cert.Tree line) ++ left
  pub good : IsTreeLine version line
  pub narrow : IsNarrowTree line

split_takes : (version : ℕ) (fields : List (List ℕ)) (t : TreeLine) (left : List (List ℕ)) → split_at fields ≡ Some (t, left) → TakesTree version (codes "split") fields t left
unfolding split_at
split_takes version fields t left e =
    let a = bind_some (number_at 1 widest fields) (λ arc. number_at 0 widest arc.1 >>= λ k. Some (Split arc.0 k.0, k.1)) (t, left) e in
    let b = bind_some (number_at 0 widest a.0.1) (λ k. Some (Split a.0.0 k.0, k.1)) (t, left) a.2 in
    let parts = some_pair_parts (Split a.0.0 b.0.0) t b.0.1 left b.2 in
    let u = number_takes 1 widest fields a.0.0 a.0.1 a.1 in
    let v = number_takes 0 widest a.0.1 b.0.0 b.0.1 b.1 in
    subst (λ x. TakesTree version (codes "split") fields x left) parts.0
    (record { word_is = refl; text = u.0 ∙ ap (λ w. decimal a.0.0 ∷ w) (v.0 ∙ ap (λ w. decimal b.0.0 ∷ w) parts.1); good = u.1.0; narrow = (omega (arith, u.1.1), omega (arith, v.1.1)) })

needed_takes : (version : ℕ) (fields : List (List ℕ)) (t : TreeLine) (left : List (List ℕ)) → 2 ≤ version → needed_at fields ≡ Some (t, left) → TakesTree version (codes "need") fields t left
unfolding needed_at
needed_takes version fields t left from e =
    let a = bind_some (number_at 1 widest fields) (λ arc. number_at 0 widest arc.1 >>= λ k. need_at k.1 >>= λ need. Some (Needed arc.0 k.0 need.0, need.1)) (t, left) e in
    let b = bind_some (number_at 0 widest a.0.1) (λ k. need_at k.1 >>= λ need. Some (Needed a.0.0 k.0 need.0, need.1)) (t, left) a.2 in
    let c = bind_some (need_at b.0.1) (λ need. Some (Needed a.0.0 b.0.0 need.0, need.1)) (t, left) b.2 in
    let parts = some_pair_parts (Needed a.0.0 b.0.0 c.0.0) t c.0.1 left c.2 in
    let u = number_takes 1 widest fields a.0.0 a.0.1 a.1 in
    let v = number_takes 0 widest a.0.1 b.0.0 b.0.1 b.1 in
    let n = need_takes b.0.1 c.0.0 c.0.1 c.1 in
    subst (λ x. TakesTree version (codes "need") fields x left) parts.0
    (record { word_is = refl; text = u.0 ∙ ap (λ w. decimal a.0.0 ∷ w) (v.0 ∙ ap (λ w. decimal b.0.0 ∷ w) (n.0 ∙ ap (λ w. need_fields c.0.0 ++ w) parts.1)); good = (from, u.1.0, n.1); narrow = (omega (arith, u.1.1), omega (arith, v.1.1), n.2) })

leaf_takes : (version : ℕ) (fields : List (List ℕ)) (t : TreeLine) (left : List (List ℕ)) → leaf_at fields ≡ Some (t, left) → TakesTree version (codes "leaf") fields t left
unfolding leaf_at
leaf_takes version fields t left e =
    let a = bind_some (prices_at fields) (λ prices. Some (Leaf prices.0, prices.1)) (t, left) e in
    let parts = some_pair_parts (Leaf a.0.0) t a.0.1 left a.2 in
    let p = prices_take fields a.0.0 a.0.1 a.1 in
    subst (λ x. TakesTree version (codes "leaf") fields x left) parts.0
    (record { word_is = refl; text = p.0 ∙ ap (λ w. prices_fields a.0.0 ++ w) parts.1; good = p.1; narrow = p.2 })

step_takes : (version : ℕ) (fields : List (List ℕ)) (t : TreeLine) (left : List (List ℕ)) → 3 ≤ version → step_at fields ≡ Some (t, left) → TakesTree version (codes "step") fields t left
unfolding step_at
step_takes version fields t left from e =
    let a = bind_some (number_at 1 MAX_DIMS fields) (λ dim. number_at 0 MAX_VALUE dim.1 >>= λ step. Some (Step dim.0 step.0, step.1)) (t, left) e in
    let b = bind_some (number_at 0 MAX_VALUE a.0.1) (λ step. Some (Step a.0.0 step.0, step.1)) (t, left) a.2 in
    let parts = some_pair_parts (Step a.0.0 b.0.0) t b.0.1 left b.2 in
    let u = number_takes 1 MAX_DIMS fields a.0.0 a.0.1 a.1 in
    let v = number_takes 0 MAX_VALUE a.0.1 b.0.0 b.0.1 b.1 in
    subst (λ x. TakesTree version (codes "step") fields x left) parts.0
    (record { word_is = refl; text = u.0 ∙ ap (λ w. decimal a.0.0 ∷ w) (v.0 ∙ ap (λ w. decimal b.0.0 ∷ w) parts.1); good = (from, u.1, v.1.1); narrow = tt })

test_le : (a b : ℕ) → nat_le a b ≡ true → a ≤ b
test_le a b e = grind (arith, nat_tests)

le_test : (a b : ℕ) → a ≤ b → nat_le a b ≡ true
le_test a b h = grind (arith, nat_tests)

-- what the tests of a word leave, one after the other
abbrev steps_else : ℕ → List ℕ → List (List ℕ) → Found TreeLine
steps_else version word fields = cond (bytes_eq word (codes "step") && nat_le 3 version) (step_at fields) None

abbrev needs_else : ℕ → List ℕ → List (List ℕ) → Found TreeLine
needs_else version word fields = cond (bytes_eq word (codes "need") && nat_le 2 version) (needed_at fields) (steps_else version word fields)

abbrev leaves_else : ℕ → List ℕ → List (List ℕ) → Found TreeLine
leaves_else version word fields = cond (bytes_eq word (codes "leaf")) (leaf_at fields) (needs_else version word fields)

steps_take : (version : ℕ) (word : List ℕ) (fields : List (List ℕ)) (t : TreeLine) (left : List (List ℕ)) → steps_else version word fields ≡ Some (t, left) → TakesTree version word fields t left
steps_take version word fields t left e =
    let found = some_chosen (bytes_eq word (codes "step") && nat_le 3 version) (step_at fields) (t, left) e in
    let tests = both (bytes_eq word (codes "step")) (nat_le 3 version) found.0 in
    subst (λ w. TakesTree version w fields t left) (sym (same_word word (codes "step") tests.0)) (step_takes version fields t left (test_le 3 version tests.1) found.1)

needs_take : (version : ℕ) (word : List ℕ) (fields : List (List ℕ)) (t : TreeLine) (left : List (List ℕ)) → needs_else version word fields ≡ Some (t, left) → TakesTree version word fields t left
needs_take version word fields t left e =
    elim (chosen (bytes_eq word (codes "need") && nat_le 2 version) (needed_at fields) (steps_else version word fields) (Some (t, left)) e) [
      | inl h ↦
          let tests = both (bytes_eq word (codes "need")) (nat_le 2 version) h.0 in
          subst (λ w. TakesTree version w fields t left) (sym (same_word word (codes "need") tests.0)) (needed_takes version fields t left (test_le 2 version tests.1) h.1)
      | inr h ↦ steps_take version word fields t left h.1
    ]

leaves_take : (version : ℕ) (word : List ℕ) (fields : List (List ℕ)) (t : TreeLine) (left : List (List ℕ)) → leaves_else version word fields ≡ Some (t, left) → TakesTree version word fields t left
leaves_take version word fields t left e =
    elim (chosen (bytes_eq word (codes "leaf")) (leaf_at fields) (needs_else version word fields) (Some (t, left)) e) [
      | inl h ↦ subst (λ w. TakesTree version w fields t left) (sym (same_word word (codes "leaf") h.0)) (leaf_takes version fields t left h.1)
      | inr h ↦ needs_take version word fields t left h.1
    ]

tree_takes : (version : ℕ) (word : List ℕ) (fields : List (List ℕ)) (t : TreeLine) (left : List (List ℕ)) → tree_at version word fields ≡ Some (t, left) → TakesTree version word fields t left
unfolding tree_at
tree_takes version word fields t left e =
    elim (chosen (bytes_eq word (codes "split")) (split_at fields) (leaves_else version word fields) (Some (t, left)) e) [
      | inl h ↦ subst (λ w. TakesTree version w fields t left) (sym (same_word word (codes "split") h.0)) (split_takes version fields t left h.1)
      | inr h ↦ leaves_take version word fields t left h.1
    ]

tree_again : (version : ℕ) (t : TreeLine) (left : List (List ℕ)) → IsTreeLine version t → IsNarrowTree t → tree_at version (word_of (cert.Tree t)) (fields_of (cert.Tree t) ++ left) ≡ Some (t, left)
unfolding tree_at split_at needed_at leaf_at step_at
tree_again version (Split arc k) left good narrow =
    rw (number_again 1 widest arc (decimal k ∷ left) (good, omega (arith, narrow.0)) (omega arith), number_again 0 widest k left (omega arith, omega (arith, narrow.1)) (omega arith)) refl
tree_again version (Needed arc k need) left good narrow =
    rw (le_test 2 version good.0, number_again 1 widest arc (decimal k ∷ (need_fields need ++ left)) (good.1, omega (arith, narrow.0)) (omega arith), number_again 0 widest k (need_fields need ++ left) (omega arith, omega (arith, narrow.1)) (omega arith), need_again need left good.2 narrow.2) refl
tree_again version (Leaf prices) left good narrow = rw (prices_again prices left good narrow) refl
tree_again version (Step dim step) left good narrow =
    rw (le_test 3 version good.0, number_again 1 MAX_DIMS dim (decimal step ∷ left) good.1 (omega arith), number_again 0 MAX_VALUE step left (omega arith, good.2) (omega arith)) refl

-- ---- lines

-- the fields are those of a line at its place, with some left
record TakesLine (before version : ℕ) (fields : List (List ℕ)) (line : CertLine) (left : List (List ℕ)) : Type 0 where
  pub text : fields ≡ word_of line ∷ fields_of line ++ left
  pub spelled : IsSpelled before version line

head_takes : (version : ℕ) (fields : List (List ℕ)) (l : CertLine) (left : List (List ℕ)) → head_at fields ≡ Some (l, left) → TakesLine 0 version fields l left
unfolding head_at
head_takes version fields l left e =
    let a = bind_some (word_at (codes "vpack-certificate") fields) (λ behind. number_at 1 3 behind >>= λ number. Some (cert.Head number.0, number.1)) (l, left) e in
    let b = bind_some (number_at 1 3 a.0) (λ number. Some (cert.Head number.0, number.1)) (l, left) a.2 in
    let parts = some_pair_parts (cert.Head b.0.0) l b.0.1 left b.2 in
    let u = number_takes 1 3 a.0 b.0.0 b.0.1 b.1 in
    subst (λ x. TakesLine 0 version fields x left) parts.0
    (record { text = word_takes (codes "vpack-certificate") fields a.0 a.1 ∙ ap (λ w. codes "vpack-certificate" ∷ w) (u.0 ∙ ap (λ w. decimal b.0.0 ∷ w) parts.1); spelled = record { place = (refl, u.1); narrow = tt } })

goal_takes : (version bound : ℕ) (fields : List (List ℕ)) (goal : Option ℕ) (left : List (List ℕ)) → 1 ≤ version → goal_at version bound fields ≡ Some (goal, left) → (fields ≡ goal_fields goal ++ left) × IsGoal version (Bound bound) goal
unfolding goal_at
goal_takes version bound fields goal left from e = by (nat_le version 1) refl e
  where
    later : Found (Option ℕ)
    later = word_at (codes "goal") fields >>= λ behind. number_at bound (bound + 1) behind >>= λ g. Some (Some g.0, g.1)

    one_of_two : (g : ℕ) → IsBetween bound (bound + 1) g → (g ≡ bound) ⊎ (g ≡ bound + 1)
    one_of_two g h = grind arith

    by : (t : Bool) → nat_le version 1 ≡ t → cond t (Some (None, fields)) later ≡ Some (goal, left) → (fields ≡ goal_fields goal ++ left) × IsGoal version (Bound bound) goal
    by true first e =
        let none : Option ℕ = None in
        let parts = some_pair_parts none goal fields left e in
        let one : version ≡ 1 = let le = test_le version 1 first in omega arith in
        subst (λ g. (fields ≡ goal_fields g ++ left) × IsGoal version (Bound bound) g) parts.0 (parts.1, one)
    by false first e =
        let a = bind_some (word_at (codes "goal") fields) (λ behind. number_at bound (bound + 1) behind >>= λ g. Some (Some g.0, g.1)) (goal, left) e in
        let b = bind_some (number_at bound (bound + 1) a.0) (λ g. Some (Some g.0, g.1)) (goal, left) a.2 in
        let parts = some_pair_parts (Some b.0.0) goal b.0.1 left b.2 in
        let u = number_takes bound (bound + 1) a.0 b.0.0 b.0.1 b.1 in
        let two : 2 ≤ version = grind (arith, nat_tests, first) in
        subst (λ g. (fields ≡ goal_fields g ++ left) × IsGoal version (Bound bound) g) parts.0
        (word_takes (codes "goal") fields a.0 a.1 ∙ ap (λ w. codes "goal" ∷ w) (u.0 ∙ ap (λ w. decimal b.0.0 ∷ w) parts.1), (two, one_of_two b.0.0 u.1))

bound_takes : (version : ℕ) (fields : List (List ℕ)) (l : CertLine) (left : List (List ℕ)) → 1 ≤ version → bound_at version fields ≡ Some (l, left) → TakesLine 1 version (codes "claim" ∷ codes "bound" ∷ fields) l left
unfolding bound_at
bound_takes version fields l left from e =
    let a = bind_some (number_at 0 MAX_PRICE fields) (λ bound. goal_at version bound.0 bound.1 >>= λ goal. Some (cert.Claim (Bound bound.0) goal.0, goal.1)) (l, left) e in
    let b = bind_some (goal_at version a.0.0 a.0.1) (λ goal. Some (cert.Claim (Bound a.0.0) goal.0, goal.1)) (l, left) a.2 in
    let parts = some_pair_parts (cert.Claim (Bound a.0.0) b.0.0) l b.0.1 left b.2 in
    let u = number_takes 0 MAX_PRICE fields a.0.0 a.0.1 a.1 in
    let g = goal_takes version a.0.0 a.0.1 b.0.0 b.0.1 from b.1 in
    subst (λ x. TakesLine 1 version (codes "claim" ∷ codes "bound" ∷ fields) x left) parts.0
    (record { text = ap (λ w. codes "claim" ∷ codes "bound" ∷ w) (u.0 ∙ ap (λ w. decimal a.0.0 ∷ w) (g.0 ∙ ap (λ w. goal_fields b.0.0 ++ w) parts.1)); spelled = record { place = (refl, u.1.1, g.1); narrow = tt } })

abbrev bounds_else : ℕ → List ℕ → List (List ℕ) → Found CertLine
bounds_else version word fields = cond (bytes_eq word (codes "bound")) (bound_at version fields) None

abbrev an_empty : List (List ℕ) → Found CertLine
an_empty fields = Some (cert.Claim Empty None, fields)

claimed_takes : (version : ℕ) (fields : List (List ℕ)) (l : CertLine) (left : List (List ℕ)) → 1 ≤ version → claimed_at version fields ≡ Some (l, left) → TakesLine 1 version (codes "claim" ∷ fields) l left
unfolding claimed_at
claimed_takes version [] l left from e = absurd (cc)
claimed_takes version (word ∷ fields) l left from e =
    elim (chosen (bytes_eq word (codes "empty")) (an_empty fields) (bounds_else version word fields) (Some (l, left)) e) [
      | inl h ↦
          let parts = some_pair_parts (cert.Claim Empty None) l fields left h.1 in
          subst (λ w. TakesLine 1 version (codes "claim" ∷ w ∷ fields) l left) (sym (same_word word (codes "empty") h.0))
          (subst (λ x. TakesLine 1 version (codes "claim" ∷ codes "empty" ∷ fields) x left) parts.0 (record { text = ap (λ w. codes "claim" ∷ codes "empty" ∷ w) parts.1; spelled = record { place = (refl, tt, refl); narrow = tt } }))
      | inr h ↦
          let found = some_chosen (bytes_eq word (codes "bound")) (bound_at version fields) (l, left) h.1 in
          subst (λ w. TakesLine 1 version (codes "claim" ∷ w ∷ fields) l left) (sym (same_word word (codes "bound") found.0)) (bound_takes version fields l left from found.1)
    ]

claim_takes : (version : ℕ) (fields : List (List ℕ)) (l : CertLine) (left : List (List ℕ)) → 1 ≤ version → claim_at version fields ≡ Some (l, left) → TakesLine 1 version fields l left
unfolding claim_at
claim_takes version fields l left from e =
    let a = bind_some (word_at (codes "claim") fields) (λ behind. claimed_at version behind) (l, left) e in
    subst (λ w. TakesLine 1 version w l left) (sym (word_takes (codes "claim") fields a.0 a.1)) (claimed_takes version a.0 l left from a.2)

abbrev trees_else : ℕ → List ℕ → List (List ℕ) → Found CertLine
trees_else version word fields = option_map (λ x. (cert.Tree x.0, x.1)) (tree_at version word fields)

abbrev an_end : List (List ℕ) → Found CertLine
an_end fields = Some (cert.End, fields)

trees_take : (before version : ℕ) (word : List ℕ) (fields : List (List ℕ)) (l : CertLine) (left : List (List ℕ)) → 2 ≤ before → trees_else version word fields ≡ Some (l, left) → TakesLine before version (word ∷ fields) l left
trees_take before version word fields l left from e = by (tree_at version word fields) refl e
  where
    by : (o : Found TreeLine) → tree_at version word fields ≡ o → option_map {U = CertLine × List (List ℕ)} (λ x. (cert.Tree x.0, x.1)) o ≡ Some (l, left) → TakesLine before version (word ∷ fields) l left
    by None is e = absurd (cc)
    by (Some x) is e =
        let parts = some_pair_parts (cert.Tree x.0) l x.1 left e in
        let t = tree_takes version word fields x.0 x.1 is in
        subst (λ y. TakesLine before version (word ∷ fields) y left) parts.0
        (record { text = (λ i. t.word_is i ∷ t.text i) ∙ ap (λ w. word_of (cert.Tree x.0) ∷ fields_of (cert.Tree x.0) ++ w) parts.1; spelled = record { place = (from, t.good); narrow = t.narrow } })

later_takes : (before version : ℕ) (fields : List (List ℕ)) (l : CertLine) (left : List (List ℕ)) → 2 ≤ before → later_at version fields ≡ Some (l, left) → TakesLine before version fields l left
unfolding later_at
later_takes before version [] l left from e = absurd (cc)
later_takes before version (word ∷ fields) l left from e =
    elim (chosen (bytes_eq word (codes "end")) (an_end fields) (trees_else version word fields) (Some (l, left)) e) [
      | inl h ↦
          let parts = some_pair_parts cert.End l fields left h.1 in
          subst (λ y. TakesLine before version (word ∷ fields) y left) parts.0
          (record { text = ap (λ w. w ∷ fields) (same_word word (codes "end") h.0) ∙ ap (λ w. codes "end" ∷ w) parts.1; spelled = record { place = from; narrow = tt } })
      | inr h ↦ trees_take before version word fields l left from h.1
    ]

-- how a line is read where at least two stand before it
begun_later : (before version : ℕ) (fields : List (List ℕ)) → 2 ≤ before → begun_at before version fields ≡ later_at version fields
unfolding begun_at
begun_later before version fields from =
    let not_first : (before == 0) ≡ false = grind (arith, nat_tests) in
    let not_second : (before == 1) ≡ false = grind (arith, nat_tests) in
    rw (not_first, not_second) refl

begun_takes : (before version : ℕ) (fields : List (List ℕ)) (l : CertLine) (left : List (List ℕ)) → 1 ≤ version → begun_at before version fields ≡ Some (l, left) → TakesLine before version fields l left
unfolding begun_at
begun_takes zero version fields l left from e = head_takes version fields l left e
begun_takes (suc zero) version fields l left from e = claim_takes version fields l left from e
begun_takes (suc (suc k)) version fields l left from e =
    let two : 2 ≤ suc (suc k) = omega arith in
    later_takes (suc (suc k)) version fields l left two (sym (begun_later (suc (suc k)) version fields two) ∙ e)

-- what is found is a line in its place, and the fields are its own
pub line_takes : (before version : ℕ) (fields : List (List ℕ)) (l : CertLine) → 1 ≤ version → line_in before version fields ≡ Some l → (fields ≡ word_of l ∷ fields_of l) × IsSpelled before version l
unfolding line_in
line_takes before version fields l from e =
    let a = bind_some (begun_at before version fields) (λ line. cond (length line.1 == 0) (Some line.0) None) l e in
    let whole = cond_some (length a.0.1 == 0) a.0.0 l a.2 in
    let t = begun_takes before version fields a.0.0 a.0.1 from a.1 in
    let nothing : a.0.1 ≡ [] = nil_from_length a.0.1 (grind (arith, nat_tests, whole.0)) in
    subst (λ x. (fields ≡ word_of x ∷ fields_of x) × IsSpelled before version x) whole.1
    (t.text ∙ ap (λ w. word_of a.0.0 ∷ fields_of a.0.0 ++ w) nothing ∙ append-nil (word_of a.0.0 ∷ fields_of a.0.0), t.spelled)

goal_again : (version bound : ℕ) (goal : Option ℕ) (left : List (List ℕ)) → bound ≤ MAX_PRICE → IsGoal version (Bound bound) goal → goal_at version bound (goal_fields goal ++ left) ≡ Some (goal, left)
unfolding goal_at
goal_again version bound None left small good = rw (le_test version 1 (omega arith)) refl
goal_again version bound (Some goal) left small good =
    let two : 2 ≤ version = good.0 in
    let later : nat_le version 1 ≡ false = grind (arith, nat_tests) in
    rw (later, word_again (codes "goal") (decimal goal ∷ left) refl, number_again bound (bound + 1) goal left (between goal good.1) (omega arith)) refl
  where
    between : (g : ℕ) → (g ≡ bound) ⊎ (g ≡ bound + 1) → IsBetween bound (bound + 1) g
    between g (inl e) = (omega arith, omega arith)
    between g (inr e) = (omega arith, omega arith)

claimed_again : (version : ℕ) (claim : Claim) (goal : Option ℕ) (left : List (List ℕ)) → IsClaim claim → IsGoal version claim goal → claimed_at version (claim_fields claim goal ++ left) ≡ Some (cert.Claim claim goal, left)
unfolding claimed_at bound_at
claimed_again version (Bound bound) goal left small good =
    rw (number_again 0 MAX_PRICE bound (goal_fields goal ++ left) (omega arith, small) (omega arith), goal_again version bound goal left small good) refl
claimed_again version Empty goal left small good = ap (λ g. Some (cert.Claim Empty g, left)) (sym good)

later_tree : (version : ℕ) (t : TreeLine) (left : List (List ℕ)) → IsTreeLine version t → IsNarrowTree t → later_at version (word_of (cert.Tree t) ∷ fields_of (cert.Tree t) ++ left) ≡ Some (cert.Tree t, left)
unfolding later_at
later_tree version (Split arc at) left good narrow = rw (tree_again version (Split arc at) left good narrow) refl
later_tree version (Needed arc at need) left good narrow = rw (tree_again version (Needed arc at need) left good narrow) refl
later_tree version (Leaf prices) left good narrow = rw (tree_again version (Leaf prices) left good narrow) refl
later_tree version (Step dim step) left good narrow = rw (tree_again version (Step dim step) left good narrow) refl

later_end : (version : ℕ) (left : List (List ℕ)) → later_at version (codes "end" ∷ left) ≡ Some (cert.End, left)
unfolding later_at
later_end version left = refl

begun_again : (before version : ℕ) (l : CertLine) (left : List (List ℕ)) → IsSpelled before version l → begun_at before version (word_of l ∷ fields_of l ++ left) ≡ Some (l, left)
unfolding begun_at head_at claim_at
begun_again before version (cert.Head number) left h =
    rw (h.place.0, word_again (codes "vpack-certificate") (decimal number ∷ left) refl, number_again 1 3 number left h.place.1 (omega arith)) refl
begun_again before version (cert.Claim claim goal) left h =
    rw (h.place.0, word_again (codes "claim") (claim_fields claim goal ++ left) refl, claimed_again version claim goal left h.place.1 h.place.2) refl
begun_again before version (cert.Tree line) left h =
    begun_later before version (word_of (cert.Tree line) ∷ fields_of (cert.Tree line) ++ left) h.place.0 ∙ later_tree version line left h.place.1 h.narrow
begun_again before version cert.End left h = begun_later before version (codes "end" ∷ left) h.place ∙ later_end version left

-- the fields of a line are read as this line
pub line_again : (before version : ℕ) (l : CertLine) → IsSpelled before version l → line_in before version (word_of l ∷ fields_of l) ≡ Some l
unfolding line_in
line_again before version l h =
    let read : begun_at before version (word_of l ∷ fields_of l) ≡ Some (l, []) = ap (begun_at before version) (sym (append-nil (word_of l ∷ fields_of l))) ∙ begun_again before version l [] h in
    rw read refl
