-- Lines in lent bytes, eight a line.
-- Assumes nothing.
use Rattle.std.specs.Prelude.{◌≡◌, refl, Bool, false, not, ◌&&◌, ◌||◌, List, [], ◌∷◌, ◌++◌, ℕ, zero, suc, ◌+◌, ◌-◌, ◌*◌, ◌%◌, ◌≤◌, ◌<◌, eqb, length, get_or}
use Rattle.std.proofs.Common.{sym, ap, ◌∙◌, not-suc-le-zero, le_of_suc-le-suc, le_refl, add-zero, zero-add, arith, add-one}
use Rattle.std.proofs.Math.Bool.{or-false, and-false, and-true}
use Rattle.wire.specs.Blocks.{put_from, length_from, from_out, from_in, apart}
use Rattle.pattern.specs.declared.types.Channel.{Channel}
use Rattle.pattern.specs.declared.types.Sign.{Sign}
use Rattle.pattern.specs.declared.types.Comparison.{Comparison}
use Rattle.pattern.specs.File.Types.{channel_number}
use Rattle.lines.specs.declared.line.Form.{Form}
use Rattle.lines.specs.declared.line.HasLine.{HasLine}
use Rattle.lines.specs.declared.line.IsLine.{IsLine}
use Rattle.lines.specs.declared.line.EdgeLine.{EdgeLine}
use Rattle.lines.specs.declared.line.CompareLine.{CompareLine}
use Rattle.lines.specs.declared.line.Line.{Line}
use Rattle.lines.specs.Lines.{has, is, side, name, axis, line_has, branch_has, line_on}
use Rattle.lines.specs.Parts.{channel_at, channel_back}

abbrev pub sign_number : Sign → ℕ
sign_number Sign.Positive = 0
sign_number Sign.Negative = 1

abbrev pub sign_at : ℕ → Sign
sign_at zero = Sign.Positive
sign_at (suc n) = Sign.Negative

abbrev pub comparison_number : Comparison → ℕ
comparison_number Comparison.Same = 0
comparison_number Comparison.Differ = 1

abbrev pub comparison_at : ℕ → Comparison
comparison_at zero = Comparison.Same
comparison_at (suc n) = Comparison.Differ

-- the byte of a comparison's form: the highest, so that a further form is one of the numbers below it
abbrev pub comparison_form : ℕ
comparison_form = 255

-- the eight bytes of a line: its form, and then its parts
abbrev pub bytes_of : Line → List ℕ
bytes_of (Line.Has l) = 0 ∷ sign_number l.sign ∷ l.name.number ∷ l.node ∷ 0 ∷ 0 ∷ 0 ∷ 0 ∷ []
bytes_of (Line.Is l) = 1 ∷ sign_number l.sign ∷ l.first.number ∷ l.second.number ∷ 0 ∷ 0 ∷ 0 ∷ 0 ∷ []
bytes_of (Line.Edge l) = 2 ∷ l.axis.number ∷ l.from.number ∷ l.to.number ∷ 0 ∷ 0 ∷ 0 ∷ 0 ∷ []
bytes_of (Line.Compare l) =
    comparison_form ∷ sign_number l.sign ∷ comparison_number l.comparison ∷ channel_number l.channel ∷ l.left.name.number
    ∷ l.left.path ∷ l.right.name.number ∷ l.right.path ∷ []

-- the form of line k: of a byte that is none of the first three, a comparison
abbrev pub form_of : ℕ → Form
form_of zero = Form.Has
form_of (suc zero) = Form.Is
form_of (suc (suc zero)) = Form.Edge
form_of (suc (suc (suc n))) = Form.Compare

abbrev pub form_at : List ℕ → ℕ → Form
form_at xs k = form_of (get_or xs (8 * k) 0)

-- line k as a line of each form; of a sign, a comparison and a channel the lowest bits are read
abbrev pub has_at : List ℕ → ℕ → HasLine
has_at xs k = record { sign = sign_at (get_or xs (8 * k + 1) 0 % 2); name = name (get_or xs (8 * k + 2) 0); node = get_or xs (8 * k + 3) 0 }

abbrev pub is_at : List ℕ → ℕ → IsLine
is_at xs k = record { sign = sign_at (get_or xs (8 * k + 1) 0 % 2); first = name (get_or xs (8 * k + 2) 0); second = name (get_or xs (8 * k + 3) 0) }

abbrev pub edge_at : List ℕ → ℕ → EdgeLine
edge_at xs k = record { axis = axis (get_or xs (8 * k + 1) 0); from = name (get_or xs (8 * k + 2) 0); to = name (get_or xs (8 * k + 3) 0) }

abbrev pub compare_at : List ℕ → ℕ → CompareLine
compare_at xs k = record {
  sign = sign_at (get_or xs (8 * k + 1) 0 % 2);
  comparison = comparison_at (get_or xs (8 * k + 2) 0 % 2);
  channel = channel_at (get_or xs (8 * k + 3) 0 % 4);
  left = side (name (get_or xs (8 * k + 4) 0)) (get_or xs (8 * k + 5) 0);
  right = side (name (get_or xs (8 * k + 6) 0)) (get_or xs (8 * k + 7) 0);
}

abbrev pub line_of_form : Form → List ℕ → ℕ → Line
line_of_form Form.Has xs k = Line.Has (has_at xs k)
line_of_form Form.Is xs k = Line.Is (is_at xs k)
line_of_form Form.Edge xs k = Line.Edge (edge_at xs k)
line_of_form Form.Compare xs k = Line.Compare (compare_at xs k)

-- line k of the lent bytes
unfoldable pub line_at : List ℕ → ℕ → Line
line_at xs k = line_of_form (form_at xs k) xs k

-- the next so many lines, from line k on; a branch of n lines is `lines_from xs 0 n`
unfoldable pub lines_from : List ℕ → ℕ → ℕ → List Line
lines_from xs k zero = []
lines_from xs k (suc left) = line_at xs k ∷ lines_from xs (suc k) left

-- the lent bytes with l as line k
unfoldable pub put_line : List ℕ → ℕ → Line → List ℕ
put_line xs k l = put_from xs (8 * k) 0 (bytes_of l)

-- ---- laws

pub sign_beyond : (n : ℕ) → (n ≡ 0 → ⊥) → sign_at n ≡ Sign.Negative
sign_beyond zero h = absurd (h refl)
sign_beyond (suc n) h = refl

pub comparison_beyond : (n : ℕ) → (n ≡ 0 → ⊥) → comparison_at n ≡ Comparison.Differ
comparison_beyond zero h = absurd (h refl)
comparison_beyond (suc n) h = refl

pub form_beyond : (n : ℕ) → (n ≡ 0 → ⊥) → (n ≡ 1 → ⊥) → (n ≡ 2 → ⊥) → form_of n ≡ Form.Compare
form_beyond zero x y z = absurd (x refl)
form_beyond (suc zero) x y z = absurd (y refl)
form_beyond (suc (suc zero)) x y z = absurd (z refl)
form_beyond (suc (suc (suc n))) x y z = refl

-- line k where its form is known
pub line_of_form_law : (xs : List ℕ) (k : ℕ) {form : Form} → form_at xs k ≡ form → line_at xs k ≡ line_of_form form xs k
unfolding line_at
line_of_form_law xs k e = ap (λ (form : Form). line_of_form form xs k) e

-- the names of a comparison are at bytes 4 and 6
pub compared_names : (xs : List ℕ) (k i : ℕ) → 2 < get_or xs (8 * k) 0
    → line_has (line_at xs k) i ≡ eqb (get_or xs (8 * k + 4) 0) i || eqb (get_or xs (8 * k + 6) 0) i
compared_names xs k i h =
    let other = form_beyond (get_or xs (8 * k) 0) (λ e. omega (arith, h, e)) (λ e. omega (arith, h, e)) (λ e. omega (arith, h, e)) in
    ap (λ (l : Line). line_has l i) (line_of_form_law xs k other)

-- those of the other forms at bytes 2 and 3; a line of the first form has one
pub other_names : (xs : List ℕ) (k i : ℕ) → get_or xs (8 * k) 0 ≤ 2
    → line_has (line_at xs k) i ≡ eqb (get_or xs (8 * k + 2) 0) i || (eqb (get_or xs (8 * k + 3) 0) i && not (eqb (get_or xs (8 * k) 0) 0))
unfolding line_at
other_names xs k i = go (get_or xs (8 * k) 0)
  where
    second : Bool
    second = eqb (get_or xs (8 * k + 3) 0) i

    go : (n : ℕ) → n ≤ 2 → line_has (line_of_form (form_of n) xs k) i ≡ eqb (get_or xs (8 * k + 2) 0) i || (second && not (eqb n 0))
    go zero l = rw (and-false second) (sym (or-false (eqb (get_or xs (8 * k + 2) 0) i)))
    go (suc zero) l = rw (and-true second) refl
    go (suc (suc zero)) l = rw (and-true second) refl
    go (suc (suc (suc n))) l = absurd (omega (arith, l))

sign_back : (s : Sign) → sign_at (sign_number s % 2) ≡ s
sign_back Sign.Positive = refl
sign_back Sign.Negative = refl

comparison_back : (c : Comparison) → comparison_at (comparison_number c % 2) ≡ c
comparison_back Comparison.Same = refl
comparison_back Comparison.Differ = refl

channel_low : (e : Channel) → channel_number e % 4 ≡ channel_number e
channel_low Channel.C0 = refl
channel_low Channel.C1 = refl
channel_low Channel.C2 = refl
channel_low Channel.C3 = refl

-- the line read back from its bytes
line_back : (l : Line) → line_at (bytes_of l) 0 ≡ l
unfolding line_at
line_back (Line.Has l) = ap (λ (s : Sign). has s l.name l.node) (sign_back l.sign)
line_back (Line.Is l) = ap (λ (s : Sign). is s l.first l.second) (sign_back l.sign)
line_back (Line.Edge l) = refl
line_back (Line.Compare l) = rw (sign_back l.sign, comparison_back l.comparison, channel_low l.channel, channel_back l.channel) refl

bytes_length : (l : Line) → length (bytes_of l) ≡ 8
bytes_length (Line.Has l) = refl
bytes_length (Line.Is l) = refl
bytes_length (Line.Edge l) = refl
bytes_length (Line.Compare l) = refl

-- equal bytes make equal lines
line_same : (xs ys : List ℕ) (k m : ℕ) → ((j : ℕ) → j < 8 → get_or xs (8 * k + j) 0 ≡ get_or ys (8 * m + j) 0) → line_at xs k ≡ line_at ys m
unfolding line_at
line_same xs ys k m h = ap (λ (form : Form). line_of_form form xs k) (ap form_of byte) ∙ go (form_at ys m)
  where
    byte : get_or xs (8 * k) 0 ≡ get_or ys (8 * m) 0
    byte = sym (ap (λ (n : ℕ). get_or xs n 0) (add-zero (8 * k))) ∙ h 0 (omega arith) ∙ ap (λ (n : ℕ). get_or ys n 0) (add-zero (8 * m))

    go : (form : Form) → line_of_form form xs k ≡ line_of_form form ys m
    go Form.Has = rw (h 1 (omega arith), h 2 (omega arith), h 3 (omega arith)) refl
    go Form.Is = rw (h 1 (omega arith), h 2 (omega arith), h 3 (omega arith)) refl
    go Form.Edge = rw (h 1 (omega arith), h 2 (omega arith), h 3 (omega arith)) refl
    go Form.Compare =
        rw (
          h 1 (omega arith),
          h 2 (omega arith),
          h 3 (omega arith),
          h 4 (omega arith),
          h 5 (omega arith),
          h 6 (omega arith),
          h 7 (omega arith),
        ) refl

pub length_put : (xs : List ℕ) (k : ℕ) (l : Line) → length (put_line xs k l) ≡ length xs
unfolding put_line
length_put xs k l = length_from xs (8 * k) 0 (bytes_of l)

-- the line stored is read back
pub put_same : (xs : List ℕ) (k : ℕ) (l : Line) → 8 * (k + 1) ≤ length xs → line_at (put_line xs k l) k ≡ l
unfolding put_line
put_same xs k l h =
    line_same (put_from xs (8 * k) 0 (bytes_of l)) (bytes_of l) k 0 (λ j i.
    ap (λ (n : ℕ). get_or (put_from xs (8 * k) 0 (bytes_of l)) (n + j) 0) (sym (add-zero (8 * k)))
    ∙ from_in xs (8 * k) 0 (bytes_of l) j (rw (bytes_length l) i) (rw (bytes_length l) (omega (arith, h)))
    ∙ ap (λ (n : ℕ). get_or (bytes_of l) n 0) (sym (zero-add j)))
    ∙ line_back l

-- every other line is left as it was
pub put_other : (xs : List ℕ) (k j : ℕ) (l : Line) → (j ≡ k → ⊥) → line_at (put_line xs k l) j ≡ line_at xs j
unfolding put_line
put_other xs k j l h =
    line_same (put_from xs (8 * k) 0 (bytes_of l)) xs j j (λ i b.
    from_out xs (8 * k) 0 (bytes_of l) (8 * j + i) (rw (bytes_length l) (apart k j i h b)))

pub length_lines : (xs : List ℕ) (k n : ℕ) → length (lines_from xs k n) ≡ n
unfolding lines_from
length_lines xs k zero = refl
length_lines xs k (suc n) = ap suc (length_lines xs (suc k) n)

-- line j of the lines from k on
line_on_from : (xs : List ℕ) (k n j : ℕ) → j < n → line_on (lines_from xs k n) j ≡ line_at xs (k + j)
unfolding lines_from
line_on_from xs k zero j h = absurd (not-suc-le-zero h)
line_on_from xs k (suc n) zero h = ap (line_at xs) (sym (add-zero k))
line_on_from xs k (suc n) (suc j) h = line_on_from xs (suc k) n j (le_of_suc-le-suc h) ∙ ap (line_at xs) place
  where
    place : suc k + j ≡ k + suc j
    place = omega arith

pub line_on_law : (xs : List ℕ) (n j : ℕ) → j < n → line_on (lines_from xs 0 n) j ≡ line_at xs j
line_on_law xs n j h = line_on_from xs 0 n j h ∙ ap (line_at xs) (zero-add j)

-- one line more
lines_more : (xs : List ℕ) (k n : ℕ) → lines_from xs k (n + 1) ≡ lines_from xs k n ++ line_at xs (k + n) ∷ []
unfolding lines_from
lines_more xs k n = ap (lines_from xs k) (add-one n) ∙ go k n
  where
    go : (k n : ℕ) → lines_from xs k (suc n) ≡ lines_from xs k n ++ line_at xs (k + n) ∷ []
    go k zero = ap (λ (m : ℕ). line_at xs m ∷ []) (sym (add-zero k))
    go k (suc n) =
        ap (λ (ls : List Line). line_at xs k ∷ ls) (go (suc k) n ∙ ap (λ (m : ℕ). lines_from xs (suc k) n ++ line_at xs m ∷ []) (place k n))
      where
        place : (k n : ℕ) → suc k + n ≡ k + suc n
        place k n = omega arith

-- equal lines, one by one
pub lines_same : (xs ys : List ℕ) (k n : ℕ) → ((j : ℕ) → k ≤ j → j < k + n → line_at xs j ≡ line_at ys j) → lines_from xs k n ≡ lines_from ys k n
unfolding lines_from
lines_same xs ys k zero h = refl
lines_same xs ys k (suc n) h =
    rw (h k (le_refl k) (omega arith), lines_same xs ys (suc k) n (λ j l m. h j (omega (arith, l)) (omega (arith, m)))) refl

-- a line stored after the first n
pub push_line : (xs : List ℕ) (n : ℕ) (l : Line) → 8 * (n + 1) ≤ length xs → lines_from (put_line xs n l) 0 (n + 1) ≡ lines_from xs 0 n ++ l ∷ []
push_line xs n l h =
    lines_more (put_line xs n l) 0 n
    ∙ rw (
      lines_same (put_line xs n l) xs 0 n (λ j a b. put_other xs n j l (λ e. omega (arith, b, e))),
      zero-add n,
      put_same xs n l h,
    ) refl

-- "a branch has a name if its first line has it or the rest, asked the same way, has it": no line is left, or the lines from k on
pub branch_end : (xs : List ℕ) (k n i : ℕ) → n ≤ k → branch_has (lines_from xs k (n - k)) i ≡ false
unfolding lines_from branch_has
branch_end xs k n i l = ap (λ (m : ℕ). branch_has (lines_from xs k m) i) none
  where
    none : n - k ≡ 0
    none = omega (arith, l)

pub branch_next : (xs : List ℕ) (k n i : ℕ) → k < n
    → branch_has (lines_from xs k (n - k)) i ≡ (line_has (line_at xs k) i || branch_has (lines_from xs (k + 1) (n - (k + 1))) i)
unfolding lines_from branch_has
branch_next xs k n i h =
    ap (λ (m : ℕ). branch_has (lines_from xs k m) i) left
    ∙ ap (λ (m : ℕ). line_has (line_at xs k) i || branch_has (lines_from xs m (n - (k + 1))) i) (sym (add-one k))
  where
    left : n - k ≡ suc (n - (k + 1))
    left = omega (arith, h)
