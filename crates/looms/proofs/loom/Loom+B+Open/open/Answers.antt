use Rattle.looms.proofs.Goes.{few_at_first, led_at_first}
use Rattle.looms.proofs.loom.«Loom+B+Open».open.Goals as goal

pub returns-clause-few : goal.returns-clause-few
returns-clause-few g c = few_at_first c.size.ensures.lawful

pub returns-clause-led : goal.returns-clause-led
returns-clause-led g c = led_at_first c.size.ensures.lawful
