-- Pieces of a certificate that are read and judged.
use Rattle.std.proofs.Common.{◌≡◌, ◌∙◌, ℕ, ◌+◌, ◌≤◌, List, [], ◌++◌, length, take, drop, refl, ap, sym, subst, inl, inr, None, Some, IfSome, Ok, Err, arith, append_assoc}
use Rattle.std.proofs.lemmas.List.{append-nil, take-append-drop, length-append, length-take-le}
use Rattle.arc_num.specs.declared.TheConstants.{MAX_CERT}
use Rattle.arc_io.specs.declared.IoFault.{IoFault}
use Rattle.arc_io.specs.declared.IoFault.TheVariants as io
use Rattle.arc_io.specs.Bytes.{Told, Takes}
use Rattle.packing_laws.specs.Instances.{InstanceValue}
use Rattle.flow_graph.specs.Arcs.{TypeValue}
use Rattle.cert_stream.specs.declared.verdict.Verdict.{Verdict}
use Rattle.cert_stream.specs.Verdicts.{IsCertain}
use Rattle.cert_stream.specs.Judges.{JudgeValue, IsFed}
use Rattle.arc_program.specs.declared.judging.Step.TheVariants.{End, Certain}
use Rattle.arc_program.specs.inner.Loading.{IsReadUpTo, TakesAtMost}
use Rattle.arc_program.specs.inner.Checking.{Brings, IsDecided, Feeds, Breaks, IsEnough, HasFedUpTo, ReadsOut}
use Rattle.arc_program.proofs.LoadLemmas.{taken_more}

-- the front of a buffer that a read filled was taken of what was left
pub brings : (n : ℕ) (buffer : List ℕ) (left after : Told) → Takes (Ok n) buffer left after → Brings (take n buffer) left after
brings n buffer None after takes = tt
brings n buffer (Some rest) after takes = (drop n rest, sym (take-append-drop n rest) ∙ ap (λ (xs : List ℕ). xs ++ drop n rest) (sym takes.bytes), takes.left)

-- a piece more was read
read_more : (held left after : Told) (bytes piece : List ℕ) → IsReadUpTo held left bytes → Brings piece left after → IsReadUpTo held after (bytes ++ piece)
read_more None left after bytes piece read brought = tt
read_more (Some all) left after bytes piece read brought =
    let b : (others : List ℕ) × (read.0 ≡ piece ++ others) × (after ≡ Some others) = subst (λ (l : Told). Brings piece l after) read.1 brought in
    (b.0, b.2, read.2 ∙ ap (λ (xs : List ℕ). bytes ++ xs) b.1 ∙ simp append_assoc)

read_none : (left : Told) → IsReadUpTo left left []
read_none None = tt
read_none (Some all) = (all, refl, refl)

-- before the first piece
pub fed_nothing : (judge : JudgeValue) (left : Told) → HasFedUpTo judge judge 0 left left
fed_nothing judge left = record { bytes = []; count = refl; most = omega arith; fed = λ I g f. (f, omega arith); read = read_none left }

-- what was taken up to one more read
pub took : (first now : JudgeValue) (taken size : ℕ) (held left after : Told) → HasFedUpTo first now taken held left → taken + size ≤ MAX_CERT + 1 → TakesAtMost size left after → TakesAtMost (MAX_CERT + 1) held after
took first now taken size held left after h few takes = taken_more held left after h.bytes (MAX_CERT + 1) size (omega (arith, h.count, few)) h.read takes

-- a piece more was fed
pub fed_more : (first now new : JudgeValue) (taken n : ℕ) (buffer : List ℕ) (held left after : Told) → HasFedUpTo first now taken held left → taken + n ≤ MAX_CERT + 1 → n ≤ length buffer → Brings (take n buffer) left after → ((I : InstanceValue) (g : List TypeValue) (bytes : List ℕ) → IsFed I g bytes now → IsFed I g (bytes ++ take n buffer) new × (length (bytes ++ take n buffer) ≤ MAX_CERT)) → HasFedUpTo first new (taken + n) held after
fed_more first now new taken n buffer held left after h most within brought feeds =
    let size : length (take n buffer) ≡ n = length-take-le n buffer within in
    let whole : length (h.bytes ++ take n buffer) ≡ length h.bytes + length (take n buffer) = length-append h.bytes (take n buffer) in
    let count : length (h.bytes ++ take n buffer) ≡ taken + n = omega (arith, size, whole, h.count) in
    record {
      bytes = h.bytes ++ take n buffer;
      count = count;
      most = most;
      fed = λ I g f. let more = feeds I g h.bytes (h.fed I g f).0 in (more.0, subst (λ (k : ℕ). k ≤ MAX_CERT) count more.1);
      read = read_more held left after h.bytes (take n buffer) h.read brought;
    }

module _ (first now : JudgeValue) (taken : ℕ) (held left : Told) (h : HasFedUpTo first now taken held left) (I : InstanceValue) (g : List TypeValue) (fed : IsFed I g [] first) where
  -- the end of the text
  pub out_end : (new : JudgeValue) (buffer : List ℕ) (after : Told) → ((bytes : List ℕ) → IsFed I g bytes now → Feeds I g bytes buffer (Ok End) new left after) → ReadsOut I g (Ok None) new held after
  out_end new buffer after feeds = let last = feeds h.bytes (h.fed I g fed).0 in (h.bytes, last.0, whole held h.read last.1)
    where
      whole : (told : Told) → IsReadUpTo told left h.bytes → IfSome left (λ rest. (rest ≡ []) × (after ≡ Some [])) → IfSome told (IsEnough I g h.bytes)
      whole None read ended = tt
      whole (Some all) read ended =
          let e : (read.0 ≡ []) × (after ≡ Some []) = subst (λ (l : Told). IfSome l (λ rest. (rest ≡ []) × (after ≡ Some []))) read.1 ended in
          inl (read.2 ∙ ap (λ (xs : List ℕ). h.bytes ++ xs) e.0 ∙ append-nil h.bytes)

  -- the verdict is certain
  pub out_certain : (new : JudgeValue) (buffer : List ℕ) (after : Told) → ((bytes : List ℕ) → IsFed I g bytes now → Feeds I g bytes buffer (Ok Certain) new left after) → ReadsOut I g (Ok None) new held after
  out_certain new buffer after feeds = let last = feeds h.bytes (h.fed I g fed).0 in (h.bytes ++ last.0, last.2, enough last.0 last.1 held (read_more held left after h.bytes last.0 h.read last.3))
    where
      enough : (piece : List ℕ) → IsDecided I g (h.bytes ++ piece) → (told : Told) → IsReadUpTo told after (h.bytes ++ piece) → IfSome told (IsEnough I g (h.bytes ++ piece))
      enough piece decided None read = tt
      enough piece decided (Some all) read = inr (decided, (read.0, read.2))

  -- a read failed behind bytes whose verdict is certain
  pub out_broken : (new other : JudgeValue) (verdict : Verdict) (after : Told) → ((bytes : List ℕ) → IsFed I g bytes now → IsFed I g bytes new) → ((bytes : List ℕ) → IsFed I g bytes new → IsCertain I g bytes verdict) → ReadsOut I g (Ok (Some verdict)) other held after
  out_broken new other verdict after same certain = (h.bytes, certain h.bytes (same h.bytes (h.fed I g fed).0), behind held h.read)
    where
      behind : (told : Told) → IsReadUpTo told left h.bytes → IfSome told (λ all. (rest : List ℕ) × (all ≡ h.bytes ++ rest))
      behind None read = tt
      behind (Some all) read = (read.0, read.2)

  -- a read failed, and nothing is wrong before it
  pub out_stopped : (new other : JudgeValue) (fault : IoFault) (after : Told) → ((bytes : List ℕ) → IsFed I g bytes now → IsFed I g bytes new × (after ≡ left)) → ((bytes : List ℕ) → IsFed I g bytes new → Breaks I g bytes (Err fault)) → ReadsOut I g (Err fault) other held after
  out_stopped new other io.Memory after same sound = tt
  out_stopped new other io.Failed after same sound = let still = same h.bytes (h.fed I g fed).0 in (h.bytes, sound h.bytes still.0, behind held h.read still.1)
    where
      behind : (told : Told) → IsReadUpTo told left h.bytes → after ≡ left → Brings h.bytes told after
      behind None read stays = tt
      behind (Some all) read stays = (read.0, read.2, stays ∙ read.1)
