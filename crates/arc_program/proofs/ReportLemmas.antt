-- Reports, line by line.
use Rattle.std.proofs.Common.{◌≡◌, ℕ, ◌+◌, ◌<◌, List, [], ◌∷◌, ◌++◌, length, take, get_or, ap, refl, suc, sym, ◌∙◌, arith, append_assoc, append-nil}
use Rattle.std.proofs.lemmas.List.{take_more, length-take-le}
use Rattle.arc_compile.specs.declared.results.TypeSize.{TypeSize}
use Rattle.packing_laws.specs.declared.packings.Bin.{Bin}
use Rattle.arc_program.specs.Reports.{type_line, type_lines, bin_text, bins_text}
use Rattle.arc_program.specs.Kept.{empties_of, empty_line, empty_lines}

-- the lines of more types come behind
type_lines-append : (t : ℕ) (xs ys : List (ℕ × ℕ)) (ss us : List TypeSize) → length ss ≡ length xs → type_lines t (xs ++ ys) (ss ++ us) ≡ type_lines t xs ss ++ type_lines (t + length xs) ys us
type_lines-append t [] ys [] us same = let e : t ≡ t + 0 = omega arith in ap (λ (n : ℕ). type_lines n ys us) e
type_lines-append t [] ys (s ∷ ss) us same = absurd (omega (arith, same))
type_lines-append t (x ∷ xs) ys [] us same = absurd (omega (arith, same))
type_lines-append t (x ∷ xs) ys (s ∷ ss) us same =
    let e : t + 1 + length xs ≡ t + length (x ∷ xs) = omega arith in
    ap (λ (zs : List ℕ). type_line t x s ++ zs) (type_lines-append (t + 1) xs ys ss us (omega (arith, same)) ∙ ap (λ (n : ℕ). type_lines (t + 1) xs ss ++ type_lines n ys us) e)
    ∙ sym (append_assoc (type_line t x s) (type_lines (t + 1) xs ss) (type_lines (t + length (x ∷ xs)) ys us))

-- the line of one type more
pub type_lines-more : (levels : List (ℕ × ℕ)) (sizes : List TypeSize) (t : ℕ) (level : ℕ × ℕ) (size : TypeSize) (before : List ℕ) → length sizes ≡ length levels → t < length levels → level ≡ get_or levels t level → size ≡ get_or sizes t size → (before ++ type_lines 1 (take t levels) (take t sizes)) ++ type_line (t + 1) level size ≡ before ++ type_lines 1 (take (t + 1) levels) (take (t + 1) sizes)
type_lines-more levels sizes t level size before same lt e f =
    let sized : length (take t levels) ≡ t = length-take-le t levels (omega arith) in
    let many : length (take t sizes) ≡ t = length-take-le t sizes (omega (arith, same)) in
    let n : 1 + length (take t levels) ≡ t + 1 = omega (arith, sized) in
    let more : take (t + 1) levels ≡ take t levels ++ level ∷ [] = take_more levels t level lt ∙ ap (λ (x : ℕ × ℕ). take t levels ++ x ∷ []) (sym e) in
    let next : take (t + 1) sizes ≡ take t sizes ++ size ∷ [] = take_more sizes t size (omega (arith, same)) ∙ ap (λ (x : TypeSize). take t sizes ++ x ∷ []) (sym f) in
    let last : type_lines (t + 1) (level ∷ []) (size ∷ []) ≡ type_line (t + 1) level size = append-nil (type_line (t + 1) level size) in
    append_assoc before (type_lines 1 (take t levels) (take t sizes)) (type_line (t + 1) level size)
    ∙ ap (λ (zs : List ℕ). before ++ zs)
    (ap (λ (zs : List ℕ). type_lines 1 (take t levels) (take t sizes) ++ zs) (sym last)
    ∙ (ap (λ (k : ℕ). type_lines 1 (take t levels) (take t sizes) ++ type_lines k (level ∷ []) (size ∷ [])) (sym n)
    ∙ (sym (type_lines-append 1 (take t levels) (level ∷ []) (take t sizes) (size ∷ []) (many ∙ sym sized))
    ∙ (ap (λ (xs : List (ℕ × ℕ)). type_lines 1 xs (take t sizes ++ size ∷ [])) (sym more)
    ∙ ap (λ (ss : List TypeSize). type_lines 1 (take (t + 1) levels) ss) (sym next)))))

-- the lines of more bins come behind
pub bins_text-append : (xs ys : List Bin) → bins_text (xs ++ ys) ≡ bins_text xs ++ bins_text ys
bins_text-append [] ys = refl
bins_text-append (x ∷ xs) ys = ap (λ (zs : List ℕ). bin_text x ++ zs) (bins_text-append xs ys) ∙ sym (append_assoc (bin_text x) (bins_text xs) (bins_text ys))

-- the line of the empty bins of one type more
pub empty_lines-more : (q : ℕ) (bins : List Bin) (before : List ℕ) → (before ++ bins_text (empty_lines q bins)) ++ bins_text (empty_line (q + 1) (empties_of (q + 1) bins)) ≡ before ++ bins_text (empty_lines (q + 1) bins)
empty_lines-more q bins before =
    let n : q + 1 ≡ suc q = omega arith in
    append_assoc before (bins_text (empty_lines q bins)) (bins_text (empty_line (q + 1) (empties_of (q + 1) bins)))
    ∙ ap (λ (zs : List ℕ). before ++ zs)
    (sym (bins_text-append (empty_lines q bins) (empty_line (q + 1) (empties_of (q + 1) bins)))
    ∙ (ap (λ (m : ℕ). bins_text (empty_lines q bins ++ empty_line m (empties_of m bins))) n
    ∙ ap (λ (m : ℕ). bins_text (empty_lines m bins)) (sym n)))
