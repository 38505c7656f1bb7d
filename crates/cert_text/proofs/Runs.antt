-- One spelling of lines and certificates, and what a reader told of a text in any pieces.
use Rattle.std.proofs.Common.{◌≡◌, ◌≢◌, ◌⊎◌, inl, inr, ℕ, ◌+◌, Bool, true, false, List, [], ◌∷◌, ◌++◌, Option, refl, sym, ap, subst, ◌∙◌, arith, append_assoc}
use Rattle.std.specs.Prelude.{map}
use Rattle.std.proofs.lemmas.Option.{same_Some}
use Rattle.std.proofs.lemmas.List.{append-nil}
use Rattle.std.proofs.lemmas.List.Concat.{flat_map-cons}
use Rattle.std.proofs.lemmas.List.Elements.{All-head, All-tail}
use Rattle.cert_text.specs.declared.lines.TreeLine.{TreeLine}
use Rattle.cert_text.specs.declared.lines.Certificate.{Certificate}
use Rattle.cert_text.specs.declared.lines.CertLine.{CertLine}
use Rattle.cert_text.specs.declared.lines.CertLine.TheVariants as cert
use Rattle.cert_text.specs.declared.answer.LineAnswer.{LineAnswer}
use Rattle.cert_text.specs.declared.answer.LineAnswer.TheVariants as answer
use Rattle.cert_text.specs.Lines.{lines_of}
use Rattle.cert_text.specs.Spelling.{line_text_of, text_of}
use Rattle.cert_text.specs.Spelled.{IsSpelled}
use Rattle.cert_text.specs.Reading.{ReaderValue, beginning}
use Rattle.cert_text.specs.Streams.{HasNoFeed, HasLine, HasNext, IsWaiting, IsFaulty, version_after, is_end, Answers}
use Rattle.cert_text.specs.Laws.{LinesHaveOneSpelling, AreSpelled, NoTextBeginsAnother, Happens, came, told, IsLast, PiecesDoNotMatter}
use Rattle.cert_text.specs.inner.Fields.{line_in, split_fields}
use Rattle.cert_text.proofs.Texts.{body_of, body_no_feed, body_reads, same_front}

-- bytes begin with one line at most
pub one_next : (before version : ℕ) (l m : CertLine) (x y : List ℕ) → IsSpelled before version l → IsSpelled before version m → line_text_of l ++ x ≡ line_text_of m ++ y → (l ≡ m) × (x ≡ y)
one_next before version l m x y p q e =
    let same = same_front (body_of l) (body_of m) x y (body_no_feed before version l p) (body_no_feed before version m q)
    (sym (append_assoc (body_of l) (10 ∷ []) x) ∙ e ∙ append_assoc (body_of m) (10 ∷ []) y) in
    (same_Some l m (sym (body_reads before version l p) ∙ ap (λ t. line_at before version t) same.0 ∙ body_reads before version m q), same.1)
  where
    line_at : ℕ → ℕ → List ℕ → Option CertLine
    line_at b v t = line_in b v (split_fields t)

pub lines_have_one_spelling : LinesHaveOneSpelling
lines_have_one_spelling before version l m p q e = (one_next before version l m [] [] p q (ap (λ t. t ++ []) e)).0

-- ---- certificates

-- the end line stands last and nowhere else
abbrev Ends : List CertLine → Type 0
Ends [] = ⊥
Ends (l ∷ ls) = ((is_end l ≡ true) × (ls ≡ [])) ⊎ ((is_end l ≡ false) × Ends ls)

-- the same behind the first lines, which are one line
joined : (l m : CertLine) (ls ms : List CertLine) (more : List ℕ) → l ≡ m → text_of ls ++ more ≡ text_of ms → Ends (l ∷ ls) → Ends (m ∷ ms) → (Ends ls → Ends ms → (ls ≡ ms) × (more ≡ [])) → (l ∷ ls ≡ m ∷ ms) × (more ≡ [])
joined l m ls ms more same e (inl x) (inl y) next =
    ((λ i. same i ∷ (x.1 ∙ sym y.1) i), sym (ap (λ t. text_of t ++ more) x.1) ∙ e ∙ ap text_of y.1)
joined l m ls ms more same e (inl x) (inr y) next = absurd (let h : is_end l ≡ is_end m = ap is_end same in cc)
joined l m ls ms more same e (inr x) (inl y) next = absurd (let h : is_end l ≡ is_end m = ap is_end same in cc)
joined l m ls ms more same e (inr x) (inr y) next = let rest = next x.1 y.1 in ((λ i. same i ∷ rest.0 i), rest.1)

same_run : (before version : ℕ) (ls ms : List CertLine) (more : List ℕ) → AreSpelled before version ls → AreSpelled before version ms → Ends ls → Ends ms → text_of ls ++ more ≡ text_of ms → (ls ≡ ms) × (more ≡ [])
same_run before version [] ms more p q u w e = absurd u
same_run before version (l ∷ ls) [] more p q u w e = absurd w
same_run before version (l ∷ ls) (m ∷ ms) more p q u w e =
    let first = one_next before version l m (text_of ls ++ more) (text_of ms) p.0 q.0 (sym (append_assoc (line_text_of l) (text_of ls) more) ∙ ap (λ t. t ++ more) (sym (flat_map-cons line_text_of l ls)) ∙ e ∙ flat_map-cons line_text_of m ms) in
    let behind = subst (λ x. AreSpelled (before + 1) (version_after version x) ms) (sym first.0) q.1 in
    joined l m ls ms more first.0 first.1 u w (λ a b. same_run (before + 1) (version_after version l) ls ms more p.1 behind a b first.1)

tree_ends : (lines : List TreeLine) → Ends (map (λ l. cert.Tree l) lines ++ cert.End ∷ [])
tree_ends [] = inl (refl, refl)
tree_ends (l ∷ ls) = inr (refl, tree_ends ls)

certificate_ends : (c : Certificate) → Ends (lines_of c)
certificate_ends c = inr (refl, inr (refl, tree_ends c.lines))

same_trees : (xs ys : List TreeLine) → map (λ l. cert.Tree l) xs ++ cert.End ∷ [] ≡ map (λ l. cert.Tree l) ys ++ cert.End ∷ [] → xs ≡ ys
same_trees [] [] e = refl
same_trees [] (y ∷ ys) e = absurd (cc)
same_trees (x ∷ xs) [] e = absurd (cc)
same_trees (x ∷ xs) (y ∷ ys) e =
    let head : x ≡ y = cc in
    let tail : map (λ l. cert.Tree l) xs ++ cert.End ∷ [] ≡ map (λ l. cert.Tree l) ys ++ cert.End ∷ [] = cc in
    let rest = same_trees xs ys tail in
    λ i. head i ∷ rest i

same_certificate : (c d : Certificate) → lines_of c ≡ lines_of d → c ≡ d
same_certificate c d e =
    let version : c.version ≡ d.version = cc in
    let claim : c.claim ≡ d.claim = cc in
    let goal : c.goal ≡ d.goal = cc in
    let behind : map (λ l. cert.Tree l) c.lines ++ cert.End ∷ [] ≡ map (λ l. cert.Tree l) d.lines ++ cert.End ∷ [] = cc in
    let lines = same_trees c.lines d.lines behind in
    λ i. record { version = version i; claim = claim i; goal = goal i; lines = lines i }

pub no_text_begins_another : NoTextBeginsAnother
no_text_begins_another c d more p q e =
    let same = same_run 0 1 (lines_of c) (lines_of d) more p q (certificate_ends c) (certificate_ends d) e in
    (same_certificate c d same.0, same.1)

-- ---- pieces

-- lines that were read from a place and a version on, up to a reader's state
abbrev Walk : ℕ → ℕ → Bool → List CertLine → ReaderValue → Type 0
Walk read version ended [] r = (r.read ≡ read) × (r.version ≡ version) × (r.ended ≡ ended)
Walk read version ended (l ∷ ls) r = (ended ≡ false) × IsSpelled read version l × Walk (read + 1) (version_after version l) (is_end l) ls r

-- what came is what the lines tell and what is unread
record IsHistory (old : ReaderValue) (bytes : List ℕ) (lines : List CertLine) (new : ReaderValue) : Type 0 where
  pub walk : Walk old.read old.version old.ended lines new
  pub good : new.bad ≡ false
  pub text : old.unread ++ bytes ≡ text_of lines ++ new.unread

history : (events : List (List ℕ ⊎ CertLine)) (old new : ReaderValue) → Happens old events new → old.bad ≡ false → IsHistory old (came events) (told events) new
history [] old new h good = record {
  walk = (ap (λ r. r.read) h, ap (λ r. r.version) h, ap (λ r. r.ended) h);
  good = ap (λ r. r.bad) h ∙ good;
  text = append-nil old.unread ∙ sym (ap (λ r. r.unread) h);
}
history (inl piece ∷ more) old new h good =
    let between = h.0 in
    let rest = history more between new h.2 (ap (λ r. r.bad) h.1 ∙ good) in
    let moved : IsHistory (record old { unread = old.unread ++ piece }) (came more) (told more) new = subst (λ r. IsHistory r (came more) (told more) new) h.1 rest in
    record { walk = moved.walk; good = moved.good; text = sym (append_assoc old.unread piece (came more)) ∙ moved.text }
history (inr line ∷ more) old new h good =
    let between = h.0 in
    let read = h.1 in
    let next = read.next in
    let rest = history more between new h.2 read.stays_good in
    let walk : Walk (old.read + 1) (version_after old.version line) (is_end line) (told more) new =
    subst (λ n. Walk n (version_after old.version line) (is_end line) (told more) new) read.read
    (subst (λ v. Walk between.read v (is_end line) (told more) new) read.version
    (subst (λ e. Walk between.read between.version e (told more) new) read.ended rest.walk)) in
    record {
      walk = (next.is_open, next.spelled, walk);
      good = rest.good;
      text = ap (λ t. t ++ came more) next.bytes ∙ append_assoc (line_text_of line) between.unread (came more) ∙ ap (λ t. line_text_of line ++ t) rest.text ∙ sym (append_assoc (line_text_of line) (text_of (told more)) new.unread) ∙ ap (λ t. t ++ new.unread) (sym (flat_map-cons line_text_of line (told more)));
    }

has_feed : (a x : List ℕ) → HasNoFeed (a ++ 10 ∷ x) → ⊥
has_feed [] x h = All-head (λ b. b ≢ 10) 10 x h refl
has_feed (b ∷ a) x h = has_feed a x (All-tail (λ n. n ≢ 10) b (a ++ 10 ∷ x) h)

no_line : (bytes : List ℕ) → HasLine bytes → HasNoFeed bytes → ⊥
no_line bytes line h = has_feed line.0 line.1 (subst HasNoFeed line.3 h)

line_is_there : (l : CertLine) (bytes x : List ℕ) → bytes ≡ line_text_of l ++ x → HasNoFeed bytes → ⊥
line_is_there l bytes x e h = has_feed (body_of l) x (subst HasNoFeed (e ∙ append_assoc (body_of l) (10 ∷ []) x) h)

-- where a line is there, a reader tells it
faulty_next : (r : ReaderValue) (l : CertLine) (x : List ℕ) → HasNext r l x → r.bad ≡ false → IsFaulty r → ⊥
faulty_next r l x next good (inl bad) = absurd (let h : true ≡ false = sym bad ∙ good in cc)
faulty_next r l x next good (inr (inl long)) = line_is_there l r.unread x next.bytes long.0
faulty_next r l x next good (inr (inr none)) = none.none l x next

no_last : (r after : ReaderValue) (a : LineAnswer) (l : CertLine) (x : List ℕ) → HasNext r l x → r.bad ≡ false → Answers r a after → IsLast a → ⊥
no_last r after (answer.Line m) l x next good h last = last
no_last r after answer.NotYet l x next good h last = line_is_there l r.unread x next.bytes h.0.partial
no_last r after (answer.Bad k) l x next good h last = faulty_next r l x next good h.0
no_last r after answer.Memory l x next good h last = last

waiting_faulty : (r : ReaderValue) → IsWaiting r → IsFaulty r → ⊥
waiting_faulty r w (inl bad) = absurd (let h : true ≡ false = sym bad ∙ w.good in cc)
waiting_faulty r w (inr (inl long)) = absurd (omega (arith, w.short, long.1))
waiting_faulty r w (inr (inr none)) = no_line r.unread none.whole w.partial

same_answer : (r next after : ReaderValue) (a b : LineAnswer) → Answers r a next → Answers r b after → IsLast a → IsLast b → a ≡ b
same_answer r next after (answer.Line l) b p q u w = absurd u
same_answer r next after answer.Memory b p q u w = absurd u
same_answer r next after answer.NotYet (answer.Line m) p q u w = absurd w
same_answer r next after answer.NotYet answer.NotYet p q u w = refl
same_answer r next after answer.NotYet (answer.Bad j) p q u w = absurd (waiting_faulty r p.0 q.0)
same_answer r next after answer.NotYet answer.Memory p q u w = absurd w
same_answer r next after (answer.Bad k) (answer.Line m) p q u w = absurd w
same_answer r next after (answer.Bad k) answer.NotYet p q u w = absurd (waiting_faulty r q.0 p.0)
same_answer r next after (answer.Bad k) (answer.Bad j) p q u w = ap (λ n. answer.Bad n) (p.1 ∙ sym q.1)
same_answer r next after (answer.Bad k) answer.Memory p q u w = absurd w

same_state : (r s : ReaderValue) → r.read ≡ s.read → r.version ≡ s.version → r.ended ≡ s.ended → r.bad ≡ s.bad → r.unread ≡ s.unread → r ≡ s
same_state r s a b c d e = λ i. record { read = a i; version = b i; ended = c i; bad = d i; unread = e i }

next_of : (read version : ℕ) (ended : Bool) (r s : ReaderValue) (l : CertLine) (ls : List CertLine) → Walk read version ended [] r → Walk read version ended (l ∷ ls) s → r.unread ≡ text_of (l ∷ ls) ++ s.unread → HasNext r l (text_of ls ++ s.unread)
next_of read version ended r s l ls at walk e = record {
  is_open = at.2 ∙ walk.0;
  spelled = subst (λ n. IsSpelled n r.version l) (sym at.0) (subst (λ v. IsSpelled read v l) (sym at.1) walk.1);
  bytes = e ∙ ap (λ t. t ++ s.unread) (flat_map-cons line_text_of l ls) ∙ append_assoc (line_text_of l) (text_of ls) s.unread;
}

same_lines : (read version : ℕ) (ended : Bool) (ls ms : List CertLine) (r s next after : ReaderValue) (a b : LineAnswer) → Walk read version ended ls r → Walk read version ended ms s → text_of ls ++ r.unread ≡ text_of ms ++ s.unread
    → r.bad ≡ false → s.bad ≡ false → Answers r a next → Answers s b after → IsLast a → IsLast b → (ls ≡ ms) × (a ≡ b)
same_lines read version ended [] [] r s next after a b p q e f g h k u w =
    let same = same_state r s (p.0 ∙ sym q.0) (p.1 ∙ sym q.1) (p.2 ∙ sym q.2) (f ∙ sym g) e in
    (refl, same_answer s next after a b (subst (λ t. Answers t a next) same h) k u w)
same_lines read version ended [] (m ∷ ms) r s next after a b p q e f g h k u w =
    absurd (no_last r next a m (text_of ms ++ s.unread) (next_of read version ended r s m ms p q e) f h u)
same_lines read version ended (l ∷ ls) [] r s next after a b p q e f g h k u w =
    absurd (no_last s after b l (text_of ls ++ r.unread) (next_of read version ended s r l ls q p (sym e)) g k w)
same_lines read version ended (l ∷ ls) (m ∷ ms) r s next after a b p q e f g h k u w =
    let first = one_next read version l m (text_of ls ++ r.unread) (text_of ms ++ s.unread) p.1 q.1
    (sym (append_assoc (line_text_of l) (text_of ls) r.unread) ∙ ap (λ t. t ++ r.unread) (sym (flat_map-cons line_text_of l ls)) ∙ e ∙ ap (λ t. t ++ s.unread) (flat_map-cons line_text_of m ms) ∙ append_assoc (line_text_of m) (text_of ms) s.unread) in
    let behind : Walk (read + 1) (version_after version l) (is_end l) ms s = subst (λ x. Walk (read + 1) (version_after version x) (is_end x) ms s) (sym first.0) q.2 in
    let rest = same_lines (read + 1) (version_after version l) (is_end l) ls ms r s next after a b p.2 behind first.1 f g h k u w in
    ((λ i. first.0 i ∷ rest.0 i), rest.1)

pub pieces_do_not_matter : PiecesDoNotMatter
pieces_do_not_matter events others r s next after a b p q e h k u w =
    let one = history events beginning r p refl in
    let two = history others beginning s q refl in
    same_lines 0 1 false (told events) (told others) r s next after a b one.walk two.walk (sym one.text ∙ e ∙ two.text) one.good two.good h k u w
