use Rattle.std.proofs.Common.{◌≡◌, ◌+◌, ◌++◌, ◌∷◌, [], ◌∙◌, Bool, List, ap, sym, map, drop, string_bytes, false, Vec, Global}
use Rattle.std.proofs.lemmas.List.{map-append}
use Rattle.command_words.specs.declared.parts.Part.{Part}
use Rattle.command_words.specs.Words.{Word, is_end}
use Rattle.command_words.specs.Parts.{part_value, part_at, takes_next, parts_from, parts_of}
use Rattle.command_words.proofs.WordLemmas.{owned_step, part_step, part_joined, tail_words}
use Rattle.command_words.proofs.parts.parts_of.Goals as goal
use Rattle.command_words.proofs.parts.parts_of.Goals.{then-belongs, else-belongs+else-ends_options+in_ok-part+in_ok-push}

pub loop-i-preserved : goal.loop-i-preserved
loop-i-preserved c =
    let words = c.args.words.now in
    let i = c.loop-i.i in
    let x = c.index-words-i.result in
    let old = map part_value c.loop-i.parts.items in
    let rest = map string_bytes (drop (i + 1) words) in
    elim c.if-belongs.branch [
      | then-belongs w ↦ let step = owned_step string_bytes words i x c.loop-i-test.true (sym c.index-words-i.is) in cc
      | else-belongs+else-ends_options+in_ok-part+in_ok-push w ↦
          let p = part_value w.in_ok-part.part in
          let still : is_end (string_bytes x) ≡ false = cc in
          let is : p ≡ part_at (i + 2) (string_bytes x) rest = w.in_ok-part.ensures ∙ (ap (λ (others : List Word). part_at (i + 2) c.as_str-word.result.now others) (tail_words string_bytes words (i + 1)) ∙ ap (λ (v : Word). part_at (i + 2) v rest) c.as_str-word.ensures.value) in
          let items : c.if-belongs.parts.items ≡ c.loop-i.parts.items ++ w.in_ok-part.part ∷ [] = ap (λ (v : Vec Part Global). v.items) w.parts-is ∙ w.in_ok-push.ensures.items in
          let belongs : c.if-belongs.belongs ≡ takes_next p = w.belongs-is ∙ w.takes_next-belongs.ensures in
          part_joined (parts_of (map string_bytes words)) old (parts_from false (i + 2) (map string_bytes (drop i words))) (parts_from c.if-belongs.belongs (i + 1 + 2) rest) (map part_value c.if-belongs.parts.items) p
          (c.loop-i.invariant ∙ ap (λ (b : Bool). old ++ parts_from b (i + 2) (map string_bytes (drop i words))) w.if-belongs.false)
          (part_step string_bytes words i x p c.loop-i-test.true (sym c.index-words-i.is) still is ∙ ap (λ (b : Bool). p ∷ parts_from b (i + 1 + 2) rest) (sym belongs))
          (ap (λ (ps : List Part). map part_value ps) items ∙ map-append part_value c.loop-i.parts.items (w.in_ok-part.part ∷ []))
    ]
