-- Filling a buffer with a line, part by part.
-- Assumes nothing.
use Rattle.std.specs.Prelude.{◌≡◌, refl, List, [], ◌∷◌, ◌++◌, ℕ, ◌+◌, ◌-◌, ◌≤◌, ◌<◌, length, take, drop}
use Rattle.std.proofs.Common.{sym, ◌∙◌, ap, append_assoc, append-nil, arith, length-append, length-drop, length-take-le, take_all, drop-drop}
use Rattle.std.proofs.Math.Seq.{take-length, drop-length, take-append_seam, drop-append-add}
use borrow.Rule.Slice.PartMut.{put_mid, Post-is}
use Rattle.wire.specs.Onto.{onto}
use Rattle.io.specs.Counts.{IsPrefixLen}
use Rattle.io.specs.Digits.{last_digits, IsDigitCount}
use Rattle.line.specs.Line.{decimal, number}
use Rattle.line.specs.Spelling.{fewest_decimal, five_digits}

-- a buffer with a text from a place on, and what stood before and behind it
abbrev pub put_at : List ℕ → ℕ → List ℕ → List ℕ
put_at buf at text = take at buf ++ text ++ drop (at + length text) buf

-- the bytes of the longest line
abbrev pub line_bytes : ℕ
line_bytes = 31

-- a text is put into a buffer from place `at` on, and ends before place `end`
pub record Put (text before : List ℕ) (at : ℕ) (after : List ℕ) (end : ℕ) : Type 0 where
  pub stands : after ≡ put_at before at text
  pub ends : end ≡ at + length text

-- a text stands at the start of a buffer, and behind it what stood there; the number is its length
pub record LineFilled (front before after : List ℕ) (end : ℕ) : Type 0 where
  pub stands : after ≡ onto front before
  pub ends : end ≡ length front

-- nothing is written yet
pub filled_none : (buf : List ℕ) → LineFilled [] buf buf 0
unfolding onto
filled_none buf = record { stands = refl; ends = refl }

-- a further part behind what is written
put_more : (s t buf : List ℕ) → put_at (onto s buf) (length s) t ≡ onto (s ++ t) buf
unfolding onto
put_more s t buf =
    ap (λ (x : List ℕ). x ++ t ++ drop (length s + length t) (onto s buf)) (take-append_seam s (drop (length s) buf))
    ∙ ap (λ (x : List ℕ). s ++ t ++ x)
    (drop-append-add s (drop (length s) buf) (length t) ∙ drop-drop (length t) (length s) buf ∙ ap (λ (n : ℕ). drop n buf) (sym (length-append s t)))

length_put : (buf text : List ℕ) (at : ℕ) → at ≤ length buf → length (take at buf ++ text) ≡ at + length text
length_put buf text at h = length-append (take at buf) text ∙ ap (λ (n : ℕ). n + length text) (length-take-le at buf h)

-- a text from a place on is written behind what stood before it
put_is : (buf text : List ℕ) (at : ℕ) → at ≤ length buf → put_at buf at text ≡ onto (take at buf ++ text) buf
unfolding onto
put_is buf text at h = ap (λ (n : ℕ). take at buf ++ text ++ drop n buf) (sym (length_put buf text at h))

-- two texts, one put behind the other, are one text
put_two : (buf s t : List ℕ) (at : ℕ) → at ≤ length buf → put_at (put_at buf at s) (at + length s) t ≡ put_at buf at (s ++ t)
put_two buf s t at h =
    ap (λ (x : List ℕ). put_at x (at + length s) t) (put_is buf s at h)
    ∙ ap (λ (n : ℕ). put_at (onto (take at buf ++ s) buf) n t) (sym (length_put buf s at h))
    ∙ put_more (take at buf ++ s) t buf
    ∙ ap (λ (x : List ℕ). onto x buf) (append_assoc (take at buf) s t)
    ∙ sym (put_is buf (s ++ t) at h)

-- the rest of the buffer was lent, and a text copied to its start
pub put_copied : (buf text part : List ℕ) (at : ℕ) → at ≤ length buf
    → part ≡ take (length text) text ++ drop (length text) (take (length buf - at) (drop at buf))
    → put_mid at (length buf - at) buf part ≡ put_at buf at text
put_copied buf text part at h e =
    ap (λ (x : List ℕ). take at buf ++ (part ++ x)) (Post-is at (length buf) buf h ∙ drop-length buf)
    ∙ ap (λ (x : List ℕ). take at buf ++ x) (append-nil part ∙ e)
    ∙ ap (λ (x : List ℕ). take at buf ++ (x ++ drop (length text) (take (length buf - at) (drop at buf)))) (take-length text)
    ∙ ap (λ (x : List ℕ). take at buf ++ (text ++ drop (length text) x)) (take_all (length buf - at) (drop at buf) (rw (length-drop at buf) (omega arith)))
    ∙ ap (λ (x : List ℕ). take at buf ++ (text ++ x)) (drop-drop (length text) at buf)
    ∙ sym (append_assoc (take at buf) text (drop (at + length text) buf))

pub filled_more : (front text before after after' : List ℕ) (end end' : ℕ) → LineFilled front before after end
    → after' ≡ put_at after end text → end' ≡ end + length text → LineFilled (front ++ text) before after' end'
filled_more front text before after after' end end' h e l =
    record {
      stands = rw (h.stands, h.ends) at e ∙ put_more front text before;
      ends = rw h.ends at l ∙ sym (length-append front text);
    }

-- what a function that filled a line says of it; the length counts bytes of the buffer
pub filled_told : (line before after : List ℕ) (end : ℕ) → LineFilled line before after end
    → (end ≡ length line) × ((after ≡ onto line before) × IsPrefixLen end after)
unfolding onto
filled_told line before after end h = (h.ends, (h.stands, counts))
  where
    counts : IsPrefixLen end after
    counts =
        rw (h.stands, h.ends, take-append_seam line (drop (length line) before))
        (rw (length-append line (drop (length line) before)) (omega arith), refl)

-- a space and the digits, put one behind the other, are the number
pub number_put : (buf spaced after text : List ℕ) (at n k place end : ℕ) → at ≤ length buf → IsDigitCount 10 1 n k → n < 65536
    → text ≡ last_digits 10 k n → k ≡ length text
    → place ≡ at + 1 → spaced ≡ put_at buf at (32 ∷ []) → end ≡ place + length text → after ≡ put_at spaced place text
    → (end ≡ at + length (number n)) × (end ≤ at + 6) × (after ≡ put_at buf at (number n))
number_put buf spaced after text at n k place end room fewest small spelt long placed p ended q = (
  omega (arith, placed, ended, ap length e),
  omega (arith, placed, ended, long, five_digits k n fewest small),
  q ∙ ap (λ (x : List ℕ). put_at spaced place x) e ∙ rw (p, placed) (put_two buf (32 ∷ []) (decimal n) at room),
)
  where
    e : text ≡ decimal n
    e = spelt ∙ fewest_decimal k n fewest
