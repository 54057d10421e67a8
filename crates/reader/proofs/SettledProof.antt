-- Each method is settled: its promise is an equation for all that it leaves.
use mathlib.Core.Path.{sym, ◌∙◌}
use Rattle.reader.specs.Promises.{EveryMethodIsSettled}

pub every_method_is_settled : EveryMethodIsSettled
every_method_is_settled = record {
  new = λ signature r r' a b. (λ i. record { signature = (a.holds ∙ sym b.holds) i; at = (a.stands ∙ sym b.stands) i });
  next_bit = λ before b b' r r' x y. (x.answered ∙ sym y.answered, x.stands ∙ sym y.stands);
  next-bytes = λ before out b b' left left' r r' x y. (
    x.answered ∙ sym y.answered,
    (x.filled ∙ sym y.filled, x.stands ∙ sym y.stands),
  );
  value = λ s k v v' x y. x ∙ sym y;
}
