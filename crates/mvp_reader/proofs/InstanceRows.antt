-- A text of several types reads as an instance exactly where its tokens are the row of this instance.
use Rattle.std.proofs.Common.{◌≡◌, ℕ, ◌≤◌, List, [], ◌∷◌, ◌++◌, length, Result, Ok, refl, sym, subst}
use Rattle.std.specs.List.{flat_map}
use Rattle.arc_num.specs.Words.{tokens_of}
use Rattle.arc_num.specs.declared.TheConstants.{MAX_DIMS, MAX_TYPES}
use Rattle.packing_laws.specs.declared.fault.ReadFault.{ReadFault}
use Rattle.packing_laws.specs.declared.instances.BinType.{BinType}
use Rattle.packing_laws.specs.declared.instances.Item.{Item}
use Rattle.packing_laws.specs.declared.instances.ItemCap.{ItemCap}
use Rattle.packing_laws.specs.Instances.{InstanceValue, IsInstance, IsBinType}
use Rattle.packing_laws.specs.Places.{Place, front, ◌>>=◌, next_number, several}
use Rattle.packing_laws.specs.Layouts.{Field, Number, Mvp, SpellsInstance, item_row, type_row, row_of, item_behind, type_behind, instance_at}
use Rattle.layout_walk.proofs.Rows.{Passes, each-All, All-each, read_both, both_read}
use Rattle.layout_walk.proofs.CapRows.{Walked, spelled_walk, walk_spelled}
use Rattle.layout_walk.proofs.ItemTails.{Tail, tail_at, tail_sound, tail_complete, walked-join, walked-split}
use Rattle.layout_walk.proofs.Numerals.{number-exact}
use Rattle.mvp_reader.proofs.ItemRows.{types-exact, LawfulBehind, items-exact, all_together, all_behind}

abbrev pub Made : ℕ → List BinType → List Item → List ItemCap → InstanceValue
Made n ts xs ks = record { dims = n; types = ts; items = xs; caps = ks }

-- what follows each part
abbrev pub after_types : ℕ → List BinType × Place → Result InstanceValue ReadFault
after_types n ts = tail_at (item_behind n) n (Made n ts.0) ts.1

abbrev pub after_type_count : ℕ → ℕ × Place → Result InstanceValue ReadFault
after_type_count n q = several q.0 (type_behind n) [] q.1 >>= after_types n

abbrev pub after_dims : ℕ × Place → Result InstanceValue ReadFault
after_dims n = next_number 1 MAX_TYPES n.1 >>= after_type_count n.0

-- from a place on the tokens spell the instance
abbrev pub WalkedWhole : Place → InstanceValue → Type 0
WalkedWhole p I = Walked p (row_of Mvp I) I.caps

pub instance_sound : (p : Place) (I : InstanceValue) → instance_at p ≡ Ok I → IsInstance I × WalkedWhole p I
unfolding instance_at
instance_sound p I h =
    let a = read_both (next_number 1 MAX_DIMS p) after_dims I h in
    let n = a.0 in
    let b = read_both (next_number 1 MAX_TYPES n.1) (after_type_count n.0) I a.1.1 in
    let k = b.0 in
    let d = read_both (several k.0 (type_behind n.0) [] k.1) (after_types n.0) I b.1.1 in
    let ts = d.0 in
    let n_part = (number-exact 1 MAX_DIMS).sound p n.0 n.1 a.1.0 in
    let k_part = (number-exact 1 MAX_TYPES).sound n.1 k.0 k.1 b.1.0 in
    let ts_part = (types-exact n.0 k.0).sound k.1 ts.0 ts.1 d.1.0 in
    let tail = tail_sound (item_behind n.0) n.0 (Made n.0 ts.0) item_row (LawfulBehind n.0) (items-exact n.0) ts.1 I n_part.0.1 d.1.1 in
    let xs = tail.0 in
    let ks = tail.1.0 in
    let parts = tail.1.1.1 in
    let items = all_together n.0 xs parts.items in
    let lawful : IsInstance (Made n.0 ts.0 xs ks) = record {
      dims = n_part.0;
      type_count = subst (λ (z : ℕ). (1 ≤ z) × (z ≤ MAX_TYPES)) (sym ts_part.0.0) k_part.0;
      types = each-All (IsBinType n.0) [] ts.0 ts_part.0.1;
      item_count = parts.count;
      items = items.0;
      form_count = items.1;
      caps = parts.caps;
    } in
    let type_count = subst (λ (z : ℕ). Passes n.1 (Number z ∷ []) k.1) (sym ts_part.0.0) k_part.1 in
    let last : List Field = Number (length xs) ∷ flat_map item_row xs in
    let third = walked-join k.1 (flat_map type_row ts.0) last ts.1 ks ts_part.1 parts.walk in
    let second = walked-join n.1 (Number (length ts.0) ∷ []) (flat_map type_row ts.0 ++ last) k.1 ks type_count third in
    let whole : WalkedWhole p (Made n.0 ts.0 xs ks) = walked-join p (Number n.0 ∷ []) (Number (length ts.0) ∷ (flat_map type_row ts.0 ++ last)) n.1 ks n_part.1 second in
    subst (λ (z : InstanceValue). IsInstance z × WalkedWhole p z) tail.1.1.0 (lawful, whole)

pub instance_complete : (p : Place) (I : InstanceValue) → IsInstance I → WalkedWhole p I → instance_at p ≡ Ok I
unfolding instance_at
instance_complete p I l walked =
    let n = I.dims in
    let ts = I.types in
    let xs = I.items in
    let last : List Field = Number (length xs) ∷ flat_map item_row xs in
    let a = walked-split p (Number n ∷ []) (Number (length ts) ∷ (flat_map type_row ts ++ last)) I.caps walked in
    let b = walked-split a.0 (Number (length ts) ∷ []) (flat_map type_row ts ++ last) I.caps a.1.1 in
    let d = walked-split b.0 (flat_map type_row ts) last I.caps b.1.1 in
    let n_read = (number-exact 1 MAX_DIMS).complete p n a.0 l.dims a.1.0 in
    let k_read = (number-exact 1 MAX_TYPES).complete a.0 (length ts) b.0 l.type_count b.1.0 in
    let ts_read = (types-exact n (length ts)).complete b.0 ts d.0 (refl, All-each (IsBinType n) [] ts l.types) d.1.0 in
    let tail : Tail n item_row (LawfulBehind n) d.0 xs I.caps = record { count = l.item_count; items = all_behind n xs l.items l.form_count; caps = l.caps; walk = d.1.1 } in
    let tail_read = tail_complete (item_behind n) n (Made n ts) item_row (LawfulBehind n) (items-exact n) d.0 xs I.caps tail in
    both_read (next_number 1 MAX_DIMS p) after_dims (n, a.0) I n_read
    (both_read (next_number 1 MAX_TYPES a.0) (after_type_count n) (length ts, b.0) I k_read
    (both_read (several (length ts) (type_behind n) [] b.0) (after_types n) (ts, d.0) I ts_read tail_read))

-- the law
pub reads_its_row : (text : List ℕ) (I : InstanceValue) → instance_at (front text) ≡ Ok I → IsInstance I × SpellsInstance Mvp (tokens_of text) I
reads_its_row text I h =
    let s = instance_sound (front text) I h in
    (s.0, spelled_walk (tokens_of text) 0 (row_of Mvp I) I.caps s.1)

pub row_is_read : (text : List ℕ) (I : InstanceValue) → IsInstance I × SpellsInstance Mvp (tokens_of text) I → instance_at (front text) ≡ Ok I
row_is_read text I h = instance_complete (front text) I h.0 (walk_spelled (tokens_of text) 0 (row_of Mvp I) I.caps h.1)
