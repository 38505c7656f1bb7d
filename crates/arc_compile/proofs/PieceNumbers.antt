-- The pieces of a type are at most as many as the forms of all items.
use Rattle.std.proofs.Common.{◌≡◌, ℕ, ◌+◌, ◌-◌, ◌<◌, ◌≤◌, inl, inr, [], List, length, eqb, map, take, take-take, sum_by, ap, sym, ◌∙◌, arith, get_or}
use Rattle.std.specs.Prelude.{AllPairs, All}
use Rattle.std.proofs.lemmas.Bool.{cases_order, eqb-true, ne_eqb}
use Rattle.std.proofs.lemmas.List.{length-map, get_or-map}
use Rattle.std.proofs.lemmas.List.Elements.{All-map, All-contains}
use Rattle.std.proofs.lemmas.List.Sums.{sum_by-take-le, sum_by_more}
use Rattle.std.proofs.lemmas.Map.Keys.{IsDistinct-from_apart, Less-from_sorted}
use Rattle.std.proofs.lemmas.Map.Steps.{length-le_from_distinct_below}
use Rattle.std.proofs.lemmas.Map.Views.{Contains-from_any}
use Rattle.packing_laws.specs.declared.instances.Item.{Item}
use Rattle.packing_laws.specs.Instances.{InstanceValue, IsInstance, IsAmong, item_at}
use Rattle.label_graph.specs.declared.parts.Piece.{Piece}
use Rattle.level_graph.specs.Levels.{IsPieceList}
use Rattle.arc_compile.specs.Extended.{extended_capacity}
use Rattle.arc_compile.proofs.PieceLists.{apart}
use Rattle.arc_compile.specs.Pieces.{padded, ArePieces, piece_cmp}
use Rattle.arc_compile.proofs.HeldPieces.{IsFormPiece, AreApart, HoldPieces, form_piece, form_pieces}
use Rattle.arc_compile.proofs.PieceLists.{is_piece_list}

-- a longer front has no smaller sum
pub front-le : {X : Type 0} (f : X → ℕ) (xs : List X) (i j : ℕ) → i ≤ j → sum_by f (take i xs) ≤ sum_by f (take j xs)
front-le f xs i j le =
    let e : sum_by f (take i (take j xs)) ≡ sum_by f (take i xs) = ap (sum_by f) (take-take i j xs le) in
    let part : sum_by f (take i (take j xs)) ≤ sum_by f (take j xs) = sum_by-take-le f (take j xs) i in
    omega arith

-- a number of each element, below n and of no two the same: there are at most n
pub numbered-le : {X : Type 0} (number : X → ℕ) (n : ℕ) (xs : List X) (x : X) → All (λ y. number y < n) xs → AllPairs (λ y z. number y ≡ number z → ⊥) xs → length xs ≤ n
numbered-le number n xs x below apart =
    let size : length (map number xs) ≡ length xs = length-map xs number in
    let at : (k d : ℕ) → k < length xs → get_or (map number xs) k d ≡ number (get_or xs k x) = λ k d lt. get_or-map number xs k x d lt in
    let distinct = IsDistinct-from_apart eqb (map number xs) (
    λ i j d lt in_range. ne_eqb (get_or (map number xs) i d) (get_or (map number xs) j d) (λ e. apart i j x lt (omega arith) (sym (at i d (omega arith)) ∙ (e ∙ at j d (omega arith))))
    ) in
    let few : length (map number xs) ≤ n = length-le_from_distinct_below (map number xs) n distinct (λ q found. All-contains (λ (k : ℕ). k < n) (map number xs) q (All-map (λ (k : ℕ). k < n) number xs below) (Contains-from_any eqb-true q (map number xs) found)) in
    omega arith

-- how many forms the first items have
abbrev pub forms_of_first : InstanceValue → ℕ → ℕ
forms_of_first I n = sum_by (λ (x : Item). length x.forms) (take n I.items)

module _ {N : ℕ} (I : InstanceValue) where
  -- the number of a form among those of all items
  abbrev pub key : Piece N → ℕ
  key q = forms_of_first I (q.item - 1) + (q.form - 1)

  pub key-next : (q : Piece N) → IsFormPiece I q → key q < forms_of_first I (q.item - 1 + 1)
  key-next q h =
      let nothing : Item = record { demand = 0; forms = [] } in
      let more : forms_of_first I (q.item - 1 + 1) ≡ forms_of_first I (q.item - 1) + length (item_at I q.item).forms = sum_by_more (λ (x : Item). length x.forms) I.items (q.item - 1) nothing (omega (arith, h.item_is.0, h.item_is.1)) in
      omega (arith, h.form_is.0, h.form_is.1)

  pub key-below : (q : Piece N) → IsFormPiece I q → key q < sum_by (λ (x : Item). length x.forms) I.items
  key-below q h =
      let next = key-next q h in
      let part : forms_of_first I (q.item - 1 + 1) ≤ sum_by (λ (x : Item). length x.forms) I.items = sum_by-take-le (λ (x : Item). length x.forms) I.items (q.item - 1 + 1) in
      omega arith

  -- pieces of one number are of one form
  pub key-apart : (p q : Piece N) → IsFormPiece I p → IsFormPiece I q → key p ≡ key q → (p.item ≡ q.item) × (p.form ≡ q.form)
  key-apart p q hp hq same = elim (cases_order p.item q.item) [
    | inl e ↦
        let before : forms_of_first I (p.item - 1) ≡ forms_of_first I (q.item - 1) = ap (λ (i : ℕ). forms_of_first I (i - 1)) e in
        (e, omega (arith, hp.form_is.0, hq.form_is.0))
    | inr (inl lt) ↦
        let next = key-next p hp in
        let le : forms_of_first I (p.item - 1 + 1) ≤ forms_of_first I (q.item - 1) = front-le (λ (x : Item). length x.forms) I.items (p.item - 1 + 1) (q.item - 1) (omega (arith, hp.item_is.0)) in
        absurd (omega arith)
    | inr (inr gt) ↦
        let next = key-next q hq in
        let le : forms_of_first I (q.item - 1 + 1) ≤ forms_of_first I (p.item - 1) = front-le (λ (x : Item). length x.forms) I.items (q.item - 1 + 1) (p.item - 1) (omega (arith, hq.item_is.0)) in
        absurd (omega arith)
  ]

  -- pieces of different forms are at most as many as all forms
  pub pieces-le_forms : (pieces : List (Piece N)) → All (IsFormPiece I) pieces → AllPairs AreApart pieces → length pieces ≤ sum_by (λ (x : Item). length x.forms) I.items
  pieces-le_forms pieces each apart = numbered-le key (sum_by (λ (x : Item). length x.forms) I.items) pieces (record { item = 0; form = 0; weight = []; copies = 0 }) (λ k d lt. key-below (get_or pieces k d) (each k d lt)) (λ i j d lt in_range same. apart i j d lt in_range (key-apart (get_or pieces i d) (get_or pieces j d) (each i d (omega arith)) (each j d in_range) same))

module _ {N : ℕ} (I : InstanceValue) (t : ℕ) where
  pub pieces-apart : (pieces : List (Piece N)) → ArePieces I t pieces → AllPairs AreApart pieces
  pieces-apart pieces h i j d lt in_range = apart I (get_or pieces i d) (get_or pieces j d) (form_piece I t (get_or pieces i d) (h.each i d (omega arith))) (form_piece I t (get_or pieces j d) (h.each j d in_range)) (Less-from_sorted piece_cmp pieces i j d h.order lt in_range)

  -- the pieces of a type hold themselves
  pub hold_own : (pieces : List (Piece N)) → ArePieces I t pieces → HoldPieces I t pieces
  hold_own pieces h = record { each = form_pieces I t pieces h.each; apart = pieces-apart pieces h; all = h.all }

  -- the pieces of a type are what a level graph is made of
  pub pieces_are_list : IsInstance I → IsAmong t (length I.types) → (pieces : List (Piece N)) → ArePieces I t pieces → IsPieceList pieces (padded N (extended_capacity I t))
  pieces_are_list known among pieces h =
      let few = pieces-le_forms I pieces (form_pieces I t pieces h.each) (pieces-apart pieces h) in
      is_piece_list I t known among pieces (omega (arith, known.form_count)) h
