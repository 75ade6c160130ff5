-- Laws of texts that are put one behind the other.
use mathlib.Core.Path.{◌≡◌, refl, ap, ◌∙◌}
use mathlib.Core.List.{List, [], ◌∷◌, ◌++◌}
use Prim.Native.Nat.{ℕ, suc, ◌+◌, ◌≤◌, ◌<◌}
use native.Mathlib.Nat.{add-zero, zero-add}
use native.Mathlib.Numerals.{add-one}
use native.Mathlib.Omega.{arith}
use borrow.Rule.Slice.PartMut.{put_mid}
use lib.ListN.{length, set, get_or, take, length-append, drop_of_length-le}
use lib.Seq.{sets, sets-eq, set_comm, length-sets, length-take-le, take-suc}
use Rattle.std.proofs.Common.{append_assoc, append-nil, drop-drop}
use Rattle.lists.specs.Lent.{overwrite}
use Rattle.text_format.specs.declared.Text.{Text}
use Rattle.text_format.specs.Inner.{Put, Puts}

-- ---- cells stored one after the other

sets_more : (a b l : List ℕ) (i : ℕ) → sets (sets l i a) (i + length a) b ≡ sets l i (a ++ b)
sets_more [] b l i = rw (add-zero i)
sets_more (x ∷ a) b l i =
    ap (λ (k : ℕ). sets (sets (set l i x) (suc i) a) k b) {x = i + suc (length a)} {y = suc i + length a} (omega arith) ∙ sets_more a b (set l i x) (suc i)

-- one behind them that was stored before
sets_behind : (a l : List ℕ) (i j x : ℕ) → i + length a ≤ j → sets (set l j x) i a ≡ set (sets l i a) j x
sets_behind [] l i j x h = refl
sets_behind (y ∷ a) l i j x h =
    ap (λ (r : List ℕ). sets r (suc i) a) (set_comm l j i x y (λ e. omega arith)) ∙ sets_behind a (set l i y) (suc i) j x (omega arith)

-- the last stored first
pub last-first : (a l : List ℕ) (i j x : ℕ) → j ≡ i + length a → sets (set l j x) i a ≡ sets l i (a ++ x ∷ [])
last-first a l i j x e = rw e (sets_behind a l i (i + length a) x (omega arith) ∙ sets_more a (x ∷ []) l i)

-- t, which is s, copied into the part of buf from `at` on
pub copied : (buf s t : List ℕ) (at k : ℕ) → t ≡ s → k ≡ length s → at + length s ≤ length buf → put_mid at k buf t ≡ sets buf at s
copied buf s t at k e l h = rw (e, l, sets-eq s buf at h) (simp (append_assoc, drop-drop))

-- a place that s fills
pub filled : (s place : List ℕ) → length place ≡ length s → sets place 0 s ≡ s
filled s place e = sets-eq s place 0 (omega arith) ∙ rw (drop_of_length-le place {i = 0 + length s} (omega arith)) (simp append-nil)

-- a turn of a loop that copies s
pub copy_turn : (s buf last : List ℕ) (at i : ℕ) → i < length s → last ≡ sets buf at (take i s) → set last (at + i) (get_or s i 0) ≡ sets buf at (take (i + 1) s)
copy_turn s buf last at i h e =
    let long : length (take i s) ≡ i = length-take-le i s (omega arith) in
    rw (e, add-one, take-suc s i 0 h, ← sets_more (take i s) (get_or s i 0 ∷ []) buf at, long)

-- ---- texts put

pub put_none : {buf : List ℕ} {at : ℕ} → at ≤ length buf → Put buf at [] buf at
put_none h = record { cells = refl; place = omega arith; room = h }

-- the same text by another name
pub put_same : {entry text t exit : List ℕ} {at next : ℕ} → text ≡ t → Put entry at t exit next → Put entry at text exit next
put_same e p = rw e p

-- a text more
infixl 10 ◌then◌
pub ◌then◌ : {entry mid exit a b : List ℕ} {at next last : ℕ} → Put entry at a mid next → Put mid next b exit last → Put entry at (a ++ b) exit last
◌then◌ {entry} {mid} {exit} {a} {b} {at} {next} {last} p q = record {
  cells = q.cells ∙ (λ t. sets (p.cells t) (p.place t) b) ∙ sets_more a b entry at;
  place = omega (arith, length-append a b);
  room = omega (arith, ap length p.cells, length-sets entry at a);
}

-- a part put, where the buffer is the same
pub puts : {old new : Text} {a : List ℕ} → new.buf.ghost_name ≡ old.buf.ghost_name → Put old.buf.now old.at a new.buf.now new.at → Puts old a new
puts {old} {new} {a} same p = record { same_buffer = same; same_length = ap length p.cells ∙ length-sets old.buf.now old.at a; put = p }

-- a part more of a text
infixl 10 ◌and◌
pub ◌and◌ : {old mid new : Text} {a b : List ℕ} → Puts old a mid → Puts mid b new → Puts old (a ++ b) new
p and q = record { same_buffer = q.same_buffer ∙ p.same_buffer; same_length = q.same_length ∙ p.same_length; put = p.put then q.put }

-- the same part by another name
pub puts_same : {old new : Text} {a b : List ℕ} → a ≡ b → Puts old b new → Puts old a new
puts_same e p = rw e p

-- nothing put
pub puts_none : {text : Text} → text.at ≤ length text.buf.now → Puts text [] text
puts_none h = record { same_buffer = refl; same_length = refl; put = put_none h }

-- a text at the front
pub put_front : {entry text exit : List ℕ} {next : ℕ} → Put entry 0 text exit next → (exit ≡ overwrite text entry) × (next ≡ length text)
put_front {entry} {text} {exit} {next} p = (p.cells ∙ rw zero-add at (sets-eq text entry 0 (omega arith)), omega arith)
