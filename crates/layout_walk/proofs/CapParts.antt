-- What follows each part of the caps of a text.
use Rattle.std.proofs.Common.{ℕ, Bool, List, [], Result, Ok}
use Rattle.arc_num.specs.declared.TheConstants.{MAX_CAP}
use Rattle.packing_laws.specs.declared.fault.ReadFault.{ReadFault}
use Rattle.packing_laws.specs.declared.instances.ItemCap.{ItemCap}
use Rattle.packing_laws.specs.Places.{Place, ◌>>=◌, next_number, several, end_at}
use Rattle.packing_laws.specs.Layouts.{cap_behind, caps_if}

abbrev pub cap_of : ℕ → ℕ → ItemCap
cap_of item count = record { item = item; count = count }

abbrev pub after_item : ℕ × Place → Result (ItemCap × Place) ReadFault
after_item i = next_number 1 MAX_CAP i.1 >>= (λ n. Ok (cap_of i.0 n.0, n.1))

abbrev pub after_count : ℕ → ℕ × Place → Result (List ItemCap × Place) ReadFault
after_count items r = several r.0 (cap_behind items) [] r.1

abbrev pub after_caps : List ItemCap × Place → Result (List ItemCap) ReadFault
after_caps ks = end_at ks.1 >>= (λ _. Ok ks.0)

abbrev pub after_word : ℕ → ℕ → Bool × Place → Result (List ItemCap) ReadFault
after_word dims items word = caps_if word.0 dims items word.1 >>= after_caps
