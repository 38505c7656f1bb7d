-- The text of lines that stand one behind the other.
use Rattle.std.proofs.Common.{◌≡◌, ℕ, List, [], ◌∷◌, ◌++◌, sym, ap, ◌∙◌, append_assoc}
use Rattle.std.specs.Prelude.{codes, flat_map}
use Rattle.std.proofs.lemmas.Grind.{flat_map-append}
use Rattle.flow_model.specs.declared.programs.Program.{Program}
use Rattle.mps_text.specs.Written.{joined, column_lines, first_mark, last_mark, rows_section, columns_section, rights_section, bounds_section, mps_text_of}

pub joined-append : (xs ys : List (List ℕ)) → joined (xs ++ ys) ≡ joined xs ++ joined ys
joined-append xs ys = flat_map-append (λ line. line ++ (10 ∷ [])) xs ys

-- one more part of lines behind a text
further : (text old : List ℕ) (xs ys : List (List ℕ)) → text ≡ old ++ joined xs → text ++ joined ys ≡ old ++ joined (xs ++ ys)
further text old xs ys e =
    ap (λ (z : List ℕ). z ++ joined ys) e ∙ (append_assoc old (joined xs) (joined ys) ∙ ap (λ (z : List ℕ). old ++ z) (sym (joined-append xs ys)))

pub columns_text : (p : Program) (a b c d : List ℕ) → b ≡ a ++ joined (codes "COLUMNS" ∷ first_mark ∷ []) → c ≡ b ++ joined (flat_map (column_lines p) p.columns) → d ≡ c ++ joined (last_mark ∷ []) → d ≡ a ++ joined (columns_section p)
columns_text p a b c d first then last =
    let columns = flat_map (column_lines p) p.columns in
    last ∙ (further c b columns (last_mark ∷ []) then ∙ further b a (codes "COLUMNS" ∷ first_mark ∷ []) (columns ++ last_mark ∷ []) first)

pub whole_text : (p : Program) (o a b c d e f : List ℕ) → o ≡ [] → a ≡ o ++ joined (codes "NAME vpack" ∷ []) → b ≡ a ++ joined (rows_section p) → c ≡ b ++ joined (columns_section p) → d ≡ c ++ joined (rights_section p) → e ≡ d ++ joined (bounds_section p) → f ≡ e ++ joined (codes "ENDATA" ∷ []) → f ≡ mps_text_of p
whole_text p o a b c d e f none name rows columns rights bounds last =
    let end = codes "ENDATA" ∷ [] in
    last
    ∙ (further e d (bounds_section p) end bounds
    ∙ (further d c (rights_section p) (bounds_section p ++ end) rights
    ∙ (further c b (columns_section p) (rights_section p ++ (bounds_section p ++ end)) columns
    ∙ (further b a (rows_section p) (columns_section p ++ (rights_section p ++ (bounds_section p ++ end))) rows
    ∙ (further a o (codes "NAME vpack" ∷ []) (rows_section p ++ (columns_section p ++ (rights_section p ++ (bounds_section p ++ end)))) name
    ∙ ap (λ (z : List ℕ). z ++ mps_text_of p) none)))))
