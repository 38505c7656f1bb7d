-- The unread bytes, and the first line feed in them.
use Rattle.std.proofs.Common.{suc, zero, ◌≡◌, ◌≢◌, ℕ, ◌+◌, ◌-◌, ◌<◌, ◌≤◌, Bool, true, false, List, [], ◌∷◌, ◌++◌, length, take, drop, Some, None, refl, sym, ap, subst, ◌∙◌, arith, append_assoc}
use Rattle.std.specs.Prelude.{◌==◌, position}
use Rattle.std.specs.List.{slice_range, position_or_len}
use Rattle.std.proofs.lemmas.Bool.Decides.{nat_tests}
use Rattle.std.proofs.lemmas.List.{take-append-drop, drop-drop, length-drop, length-take}
use Rattle.std.proofs.lemmas.List.Elements.{All-nil, All-cons, All-append, All-weaker, All-same}
use Rattle.std.proofs.Math.Seq.{take-append-add}
use Rattle.arc_num.proofs.Places.{place_some, place_none}
use Rattle.cert_text.specs.Streams.{HasNoFeed}
use Rattle.cert_text.specs.inner.Kept.{IsKept}
use Rattle.cert_text.proofs.Cuts.{slice_range-to_end, none_passes}

not_feed : (b : ℕ) → (b == 10) ≡ false → b ≢ 10
not_feed b e = grind (arith, nat_tests)

pub without : (bs : List ℕ) → position (λ b. b == 10) bs ≡ None → HasNoFeed bs
without bs h = All-weaker (λ b. (b == 10) ≡ false) (λ b. b ≢ 10) not_feed bs (none_passes 10 bs (place_none (λ b. b == 10) bs h))

-- what stands before the first line feed, and behind it
pub record IsCut (bs : List ℕ) (i : ℕ) : Type 0 where
  pub parts : bs ≡ take i bs ++ 10 ∷ drop (i + 1) bs
  pub front : HasNoFeed (take i bs)

cut_at : (bs : List ℕ) → position_or_len (λ b. b == 10) bs < length bs → IsCut bs (position_or_len (λ b. b == 10) bs)
cut_at [] h = absurd (omega arith)
cut_at (b ∷ bs) h = by (b == 10) refl (cut_at bs)
  where
    by : (t : Bool) → (b == 10) ≡ t → (position_or_len (λ b. b == 10) bs < length bs → IsCut bs (position_or_len (λ b. b == 10) bs)) → IsCut (b ∷ bs) (position_or_len (λ b. b == 10) (b ∷ bs))
    by true e next =
        let z : position_or_len (λ b. b == 10) (b ∷ bs) ≡ 0 = rw e refl in
        let same : b ≡ 10 = grind (arith, nat_tests) in
        rw z (record { parts = ap (λ x. x ∷ bs) same; front = All-nil (λ x. x ≢ 10) })
    by false e next =
        let z : position_or_len (λ b. b == 10) (b ∷ bs) ≡ suc (position_or_len (λ b. b == 10) bs) = rw e (omega arith) in
        let rest = next (omega arith) in
        let i = position_or_len (λ b. b == 10) bs in
        let more : suc i + 1 ≡ suc (i + 1) = omega arith in
        let behind : drop (suc i + 1) (b ∷ bs) ≡ drop (i + 1) bs = ap (λ n. drop n (b ∷ bs)) more in
        rw z (record { parts = ap (λ x. b ∷ x) rest.parts ∙ ap (λ x. b ∷ (take i bs ++ 10 ∷ x)) (sym behind); front = All-cons (λ x. x ≢ 10) b (take i bs) (not_feed b e) rest.front })

pub first_feed : (bs : List ℕ) (i : ℕ) → position (λ b. b == 10) bs ≡ Some i → IsCut bs i × (i < length bs)
first_feed bs i h =
    let at = place_some (λ b. b == 10) bs i h in
    (subst (IsCut bs) (sym at.0) (cut_at bs (omega (arith, at.0, at.1))), at.1)

-- the unread bytes are those that hold no line feed, and the others
unread_parts : (bytes : List ℕ) (start clear : ℕ) → start ≤ clear → drop start bytes ≡ slice_range bytes start clear ++ drop clear bytes
unread_parts bytes start clear le =
    let sum : start + (clear - start) ≡ clear = omega arith in
    sym (take-append-drop (clear - start) (drop start bytes)) ∙ ap (λ x. slice_range bytes start clear ++ x) (drop-drop (clear - start) start bytes ∙ ap (λ n. drop n bytes) sum)

-- no line feed has come
pub record IsPartial (bytes : List ℕ) (start version : ℕ) : Type 0 where
  pub no_feed : HasNoFeed (drop start bytes)
  pub kept : IsKept bytes start (length bytes) version

pub partial : (bytes : List ℕ) (start clear version : ℕ) → IsKept bytes start clear version → position (λ b. b == 10) (slice_range bytes clear (length bytes)) ≡ None → IsPartial bytes start version
partial bytes start clear version kept h =
    let behind : HasNoFeed (drop clear bytes) = subst HasNoFeed (slice_range-to_end bytes clear) (without (slice_range bytes clear (length bytes)) h) in
    let all : HasNoFeed (drop start bytes) = All-same (λ b. b ≢ 10) (drop start bytes) (slice_range bytes start clear ++ drop clear bytes) (unread_parts bytes start clear kept.ordered) (All-append (λ b. b ≢ 10) (slice_range bytes start clear) (drop clear bytes) kept.no_feed behind) in
    record {
      no_feed = all;
      kept = record {
        ordered = omega (arith, kept.ordered, kept.within);
        within = omega arith;
        no_feed = subst HasNoFeed (sym (slice_range-to_end bytes start)) all;
        versioned = kept.versioned;
      };
    }

-- the first line ends at a place
pub record IsWhole (bytes : List ℕ) (start end : ℕ) : Type 0 where
  pub no_feed : HasNoFeed (slice_range bytes start end)
  pub parts : drop start bytes ≡ slice_range bytes start end ++ 10 ∷ drop (end + 1) bytes
  pub within : end < length bytes

pub whole : (bytes : List ℕ) (start clear gap version : ℕ) → IsKept bytes start clear version → position (λ b. b == 10) (slice_range bytes clear (length bytes)) ≡ Some gap → IsWhole bytes start (clear + gap)
whole bytes start clear gap version kept h =
    let rest : List ℕ = drop clear bytes in
    let found = first_feed rest gap (subst (λ x. position (λ b. b == 10) x ≡ Some gap) (slice_range-to_end bytes clear) h) in
    let cut = found.0 in
    let front : List ℕ = slice_range bytes start clear in
    let long : length front ≡ clear - start = length_range bytes start clear kept.ordered kept.within in
    let both : drop start bytes ≡ front ++ rest = unread_parts bytes start clear kept.ordered in
    let count : clear + gap - start ≡ length front + gap = omega (arith, kept.ordered) in
    let text : slice_range bytes start (clear + gap) ≡ front ++ take gap rest = ap (λ n. take n (drop start bytes)) count ∙ ap (λ x. take (length front + gap) x) both ∙ take-append-add front rest gap in
    let behind : drop (gap + 1) rest ≡ drop (clear + gap + 1) bytes = drop-drop (gap + 1) clear bytes ∙ ap (λ n. drop n bytes) (omega arith) in
    record {
      no_feed = All-same (λ b. b ≢ 10) (slice_range bytes start (clear + gap)) (front ++ take gap rest) text (All-append (λ b. b ≢ 10) front (take gap rest) kept.no_feed cut.front);
      parts = both ∙ ap (λ x. front ++ x) (cut.parts ∙ ap (λ x. take gap rest ++ 10 ∷ x) behind) ∙ sym (append_assoc front (take gap rest) (10 ∷ drop (clear + gap + 1) bytes)) ∙ ap (λ x. x ++ 10 ∷ drop (clear + gap + 1) bytes) (sym text);
      within = omega (arith, found.1, length-drop clear bytes);
    }
  where
    length_range : (bs : List ℕ) (i j : ℕ) → i ≤ j → j ≤ length bs → length (slice_range bs i j) ≡ j - i
    length_range bs i j le within = omega (arith, length-take (j - i) (drop i bs), length-drop i bs)

-- nothing is looked through behind the line
pub behind_line : (bytes : List ℕ) (start end version : ℕ) → IsWhole bytes start end → 1 ≤ version → IsKept bytes (end + 1) (end + 1) version
behind_line bytes start end version line versioned = record {
  ordered = omega arith;
  within = omega (arith, line.within);
  no_feed = nothing (drop (end + 1) bytes) (end + 1 - (end + 1)) (omega arith);
  versioned = versioned;
}
  where
    nothing : (bs : List ℕ) (n : ℕ) → n ≡ 0 → HasNoFeed (take n bs)
    nothing bs zero e = All-nil (λ b. b ≢ 10)
    nothing bs (suc n) e = absurd (omega arith)
