-- A name, computed by the definition itself.
use Rattle.std.proofs.Common.{◌≡◌, refl}
use Rattle.std.specs.Prelude.{codes}
use Rattle.std.specs.Char.{encode_utf8}
use Rattle.std.specs.Str.{chars}
use Rattle.tomex_html.specs.Html.{html_char, html_name}

marked_name : html_name (codes "<i>\"a&b\"\n.toml") ≡ codes "&lt;i&gt;&quot;a&amp;b&quot;\\n.toml"
unfolding html_name html_char chars encode_utf8
marked_name = refl
