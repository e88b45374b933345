-- What is found out of a study's lists.
use Rattle.std.specs.Prelude.{List, map}
use Rattle.tomex_config.specs.Parts.{all_parts}
use Rattle.tomex_config.specs.declared.part.Part.{Part}
use Rattle.tomex_study.specs.Choices.{front_choices, unused}
use Rattle.tomex_study.specs.ListFindings.{ListFindings}
use Rattle.tomex_study.specs.Study.{DesignSpace}
use Rattle.tomex_choices.specs.Additions.{additions, saving_of}
use Rattle.tomex_choices.specs.Enough.{enough}

abbrev pub report_of : DesignSpace → Part → ListFindings
report_of s part = record {
  part = part;
  front = front_choices s part;
  unused = unused s part;
  additions = additions s part;
  saving = saving_of s part;
  enough = enough s part;
}

-- of each list, in the order of the parts
unfoldable pub list_reports : DesignSpace → List ListFindings
list_reports s = map (report_of s) all_parts
