-- A rate within the limits of reading is printed as a word that spells it. Assumes nothing.
use Rattle.std.proofs.Common.{◌≡◌, ℕ, ◌≤◌, ◌↔◌, ◌∷◌, ◌++◌, append_assoc, Some, codes, refl, arith}
use Rattle.std.proofs.lemmas.Fmt.{decimal_nonempty, digits_decimal, digits_value-decimal, length-decimal-le}
use Rattle.std.specs.Fmt.{decimal}
use Rattle.std.specs.Str.Parse.{digits_value}
use Rattle.leaves.specs.Printing.{Readable, rate_text}
use Rattle.leaves.specs.RateReading.{rate_of}
use Rattle.leaves.specs.Rates.{Numeral, Form, fraction, largest}
use Rattle.leaves.specs.RatesLemmas.{spelled_by}
use Rattle.leaves.specs.declared.rate.Rate.{Rate}
use Rattle.leaves.proofs.Digits.{own}

-- what is printed of a number within the limits is a numeral
printed_numeral : (n : ℕ) → n ≤ largest → Numeral 10 (decimal n)
printed_numeral n h =
    record { some = decimal_nonempty n (omega arith); short = length-decimal-le 10 n (omega arith) (omega arith) (omega arith); all = digits_decimal own n (omega arith) }

printed_form : (x : Rate) → Readable x → Form (rate_text x) x.numerator x.denominator
printed_form x r =
    let n = decimal x.numerator in
    let d = decimal x.denominator in
    let form : Form (n ++ 47 ∷ d) (digits_value 10 n) (digits_value 10 d) =
    fraction (printed_numeral x.numerator r.top) (printed_numeral x.denominator r.bottom) in
    rw (append_assoc n (codes "/") d)
    (rw (digits_value-decimal own x.numerator (omega (arith, r.top)), digits_value-decimal own x.denominator (omega (arith, r.bottom))) at form)

pub rates_read_back : (x : Rate) → (rate_of (rate_text x) ≡ Some x) ↔ Readable x
rates_read_back x =
    let spelled = spelled_by (rate_text x) (rate_of (rate_text x)) refl x in (
      λ e. let s = spelled.0 e in record { top = s.top; nonzero = s.nonzero; bottom = s.bottom },
      λ r. spelled.1 (record { form = printed_form x r; top = r.top; nonzero = r.nonzero; bottom = r.bottom }),
    )
