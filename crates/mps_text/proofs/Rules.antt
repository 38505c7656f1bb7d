-- What the tests of the reader say in the words of the rules.
use Rattle.std.proofs.Common.{suc, zero, ◌≡◌, ℕ, ◌<◌, ◌≤◌, Bool, true, false, List, [], ◌∷◌, length, get_or, Option, Some, None, refl, sym, ap, ◌∙◌, arith}
use Rattle.std.specs.Prelude.{◌&&◌, not, is_none, nat_le, bytes_eq, AllPairs}
use Rattle.std.specs.List.{list_all, AllByRecursion}
use Rattle.std.proofs.lemmas.Bool.Decides.{nat_tests}
use Rattle.std.proofs.lemmas.List.Elements.{All-from_recursion}
use Rattle.std.proofs.lemmas.List.Sums.{fails_before_first}
use Rattle.flow_model.specs.declared.programs.Entry.{Entry}
use Rattle.flow_model.specs.Programs.{IsName, AreDistinct, marker_word}
use Rattle.mps_text.specs.Meaning.{is_visible, is_name, place_of}
use Rattle.mps_text.proofs.WrittenNumbers.{both}
use Rattle.mps_text.proofs.NamePlaces.{same}
use Rattle.arc_num.proofs.Places.{place_none}

visible_byte : (b : ℕ) → is_visible b ≡ true → (33 ≤ b) × (b ≤ 126)
visible_byte b h = grind (arith, nat_tests)

visible_bytes : (bs : List ℕ) → list_all is_visible bs ≡ true → AllByRecursion (λ b. (33 ≤ b) × (b ≤ 126)) bs
visible_bytes [] h = tt
visible_bytes (b ∷ bs) h = let parts = both (is_visible b) (list_all is_visible bs) h in (visible_byte b parts.0, visible_bytes bs parts.1)

sizes : (n : ℕ) → (nat_le 1 n && nat_le n 255) ≡ true → (1 ≤ n) × (n ≤ 255)
sizes n h = grind (arith, nat_tests)

not_so : (b : Bool) → not b ≡ true → b ≡ true → ⊥
not_so true x y = absurd (cc)
not_so false x y = absurd (cc)

pub name_sound : (name : List ℕ) → is_name name ≡ true → IsName name
name_sound name h =
    let parts = both (nat_le 1 (length name) && nat_le (length name) 255) (list_all is_visible name && not (bytes_eq name marker_word)) h in
    let others = both (list_all is_visible name) (not (bytes_eq name marker_word)) parts.1 in
    record {
      size = sizes (length name) parts.0;
      bytes = All-from_recursion (λ b. (33 ≤ b) × (b ≤ 126)) name (visible_bytes name others.0);
      other = (λ e. not_so (bytes_eq name marker_word) others.1 (ap (λ z. bytes_eq z marker_word) e ∙ same marker_word));
    }

pub apart_none : AreDistinct []
apart_none i j d lt small = absurd (omega arith)

pub apart_cons : (x : List ℕ) (xs : List (List ℕ)) → place_of x xs ≡ None → AreDistinct xs → AreDistinct (x ∷ xs)
apart_cons x xs none rest zero zero d lt small = absurd (omega arith)
apart_cons x xs none rest zero (suc j) d lt small = (λ e.
    let fails = fails_before_first (bytes_eq x) xs j d (let n = place_none (bytes_eq x) xs none in omega arith) in
    let holds : bytes_eq x (get_or xs j d) ≡ true = ap (λ z. bytes_eq x z) (sym e) ∙ same x in
    absurd (cc))
apart_cons x xs none rest (suc i) zero d lt small = absurd (omega arith)
apart_cons x xs none rest (suc i) (suc j) d lt small = rest i j d (omega arith) (omega arith)

pub no_place : (o : Option ℕ) → is_none o ≡ true → o ≡ None
no_place None h = refl
no_place (Some k) h = absurd (cc)

pub rise_none : AllPairs {X = Entry} (λ d e. d.row < e.row) []
rise_none i j d lt small = absurd (omega arith)

pub rise_cons : (x : Entry) (xs : List Entry) → AllByRecursion (λ e. x.row < e.row) xs → AllPairs (λ d e. d.row < e.row) xs → AllPairs (λ d e. d.row < e.row) (x ∷ xs)
rise_cons x xs above rest zero zero d lt small = absurd (omega arith)
rise_cons x xs above rest zero (suc j) d lt small = All-from_recursion (λ e. x.row < e.row) xs above j d (omega arith)
rise_cons x xs above rest (suc i) zero d lt small = absurd (omega arith)
rise_cons x xs above rest (suc i) (suc j) d lt small = rest i j d (omega arith) (omega arith)
