-- Each instance is small, or too large from one first type on.
use Rattle.std.proofs.Common.{◌≡◌, ℕ, zero, suc, ◌+◌, ◌-◌, ◌<◌, ◌≤◌, ◌⊎◌, length, refl, subst, inl, inr, ⊎_elim, arith}
use Rattle.std.proofs.lemmas.Bool.{cases_lt}
use Rattle.arc_num.specs.declared.TheConstants.{MAX_ARCS}
use Rattle.packing_laws.specs.Instances.{InstanceValue, IsInstance, IsAmong}
use Rattle.level_graph.specs.LevelLaws.{LevelGraphsAreGraphs, LevelGraphsExist}
use Rattle.main_compress.specs.MainLaws.{IsRoomFor, MainGraphsExist}
use Rattle.arc_compile.specs.Extended.{places_of, extended_capacity}
use Rattle.arc_compile.specs.Pieces.{padded}
use Rattle.arc_compile.specs.Graphs.{HasMainArcs, HaveMainArcs, IsTooLarge}
use Rattle.arc_compile.specs.CompileLaws.{SizesExist}
use Rattle.arc_compile.proofs.PieceNumbers.{pieces_are_list}
use Rattle.arc_compile.proofs.PiecesExist.{pieces_exist}
use Rattle.arc_compile.proofs.WeighedPieces.{are_weighed}

module _ (level_graphs : LevelGraphsAreGraphs) (levels : LevelGraphsExist) (mains : MainGraphsExist) (I : InstanceValue) (known : IsInstance I) where
  -- the main graph of a type has some number of arcs
  main_arcs_exist : (t : ℕ) → IsAmong t (length I.types) → (arcs : ℕ) × HasMainArcs (places_of I) I t arcs
  main_arcs_exist t among =
      let N = places_of I in
      let small : N ≤ 32 = omega (arith, known.caps.room) in
      let room = padded N (extended_capacity I t) in
      let pieces = pieces_exist N I t in
      let list = pieces_are_list I t known among pieces.0 pieces.1 in
      let weighed = are_weighed I t known among (omega arith) small pieces.0 pieces.1.each in
      let level = levels N pieces.0 room list weighed in
      let within = level_graphs N pieces.0 room level.0 list weighed level.1 in
      let holds : IsRoomFor room level.0 = record { sized = weighed.sized; ranged = weighed.ranged; fits = within.fits } in
      let main = mains N room level.0 within.graph holds in (
        length main.0.arcs,
        record {
          level = level.0;
          main = main.0;
          mains = record { pieces = pieces.0; are_pieces = pieces.1; level_is = level.1; main_is = main.1 };
          arcs_are = refl;
        },
      )

  -- the first types are small together, or too large from one of them on
  first_sizes_exist : (t : ℕ) → t ≤ length I.types → ((arcs : ℕ) × HaveMainArcs I t arcs × (arcs ≤ MAX_ARCS)) ⊎ ((s : ℕ) × IsTooLarge I s)
  first_sizes_exist zero le = inl (0, refl, omega arith)
  first_sizes_exist (suc t) le =
      ⊎_elim
      (λ so_far.
      let among : IsAmong (suc t) (length I.types) = (omega arith, le) in
      let more = main_arcs_exist (suc t) among in
      let have : HaveMainArcs I (suc t) (so_far.0 + more.0) = (so_far.0, more.0, so_far.1, more.1, refl) in
      let back : t ≡ suc t - 1 = omega arith in
      ⊎_elim
      (λ past. inr (
        suc t,
        record {
          bin_type = among;
          before = so_far.0;
          have_before = subst (λ (n : ℕ). HaveMainArcs I n so_far.0) back so_far.1;
          within = so_far.2;
          arcs = so_far.0 + more.0;
          have = have;
          past = past;
        },
      ))
      (λ within. inl (so_far.0 + more.0, have, within))
      (cases_lt MAX_ARCS (so_far.0 + more.0)))
      (λ large. inr large)
      (first_sizes_exist t (omega arith))

pub sizes_exist : LevelGraphsAreGraphs → LevelGraphsExist → MainGraphsExist → SizesExist
sizes_exist level_graphs levels mains I known = first_sizes_exist level_graphs levels mains I known (length I.types) (omega arith)
