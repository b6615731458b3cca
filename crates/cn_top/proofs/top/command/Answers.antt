use Rattle.std.proofs.Common.{map}
use Rattle.std.specs.Prelude.{string_bytes}
use Rattle.cn_outside.specs.Scene.{scene}
use Rattle.cn_top.specs.Form.{asked}
use Rattle.cn_top.proofs.EndingKinds.{kind_of}
use Rattle.cn_top.proofs.Frame.{keeps_others}
use Rattle.cn_top.proofs.Outcomes.{done_where, refused_where, starved_where, unput_where, unread_where, usage_only, usage_where, valid_only, wrong_only}
use Rattle.cn_top.proofs.top.command.Goals as goal

pub returns : goal.returns
returns g c =
    let form = asked (map string_bytes c.args.words.now) in
    let before = scene (g.S.Shelf.files c.args.shelf.now) (g.O.Out.printed c.args.out.now) in
    let after = scene (g.S.Shelf.files c.run.new.shelf) (g.O.Out.printed c.run.new.out) in
    let result = c.run.result in
    let kind = kind_of form before after result c.run.ensures in
    record {
      outcome = c.run.ensures;
      right = done_where form before after result kind;
      complete = λ valid tells calm. valid_only form before after result kind calm tells valid;
      wrong = refused_where form before after result kind;
      wrongly = λ w is tells calm. wrong_only form before after result kind calm tells w is;
      usage = usage_where form before after result kind;
      misused = λ words calm. usage_only form before after result kind calm words;
      unread = unread_where form before after result kind;
      unput = unput_where form before after result kind;
      starved = starved_where form before after result kind;
      others = keeps_others form before after result c.run.ensures;
    }
