use Rattle.cn_wire.proofs.Written.{path_octets_few}
use Rattle.cn_wire.proofs.writing.put_attributes.Goals as goal

pub put_attribute-requires-2 : goal.put_attribute-requires-2
put_attribute-requires-2 c =
    rw (c.deref.ensures.value, c.in_ok-path.ensures.0)
    (path_octets_few c.args.attrs.now.path c.in_ok-path.ensures.1.1)
