use Rattle.std.proofs.Common.{rules, arith}
use Rattle.le.specs.Le.{Bytes}
use Rattle.translation.proofs.Translated.{translated, translated_helper, translated_rust, translated_size}
use Rattle.translation.proofs.translate.Goals as goal

pub returns : goal.returns
unfolding Bytes
returns c =
    let a = c.args in
    let r = c.translate.ensures in
    let b : Bytes a.guest.now = λ i. let k = c.type_inv.guest i in omega arith in
    record {
      answer = r;
      demand3 = λ p. translated a.host a.pc a.limit a.guest.now a.output.now b (search rules) _ r p;
      helper_block = λ p. translated_helper a.host a.pc a.limit a.guest.now a.output.now b (search rules) (search rules) (search rules) (search rules) (search rules) _ r p;
      rust_block = λ p free. translated_rust a.host a.pc a.limit a.guest.now a.output.now b (search rules) (search rules) (search rules) (search rules) (search rules) _ r p free;
      size = translated_size a.host a.pc a.limit a.guest.now a.output.now b (search rules) _ r;
    }
